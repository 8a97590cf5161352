use Rattle.std.proofs.Common.{◌≡◌, ◌∙◌, ℕ, List, [], ◌∷◌, Option, Some, None, MatchOption, refl, sym, subst}
use Rattle.clap.specs.Matches.{found_of}
use Rattle.clap.specs.declared.parser.matches.Found.{Found}
use Rattle.sp_jobs.specs.Places.{AreNumbered}
use Rattle.sp_options.specs.declared.given.Given.{Given}
use Rattle.sp_options.specs.Numbers.{SpellNumbers}
use Rattle.sp_options.specs.Given.{AreGiven, LacksGiven, given_words}
use Rattle.sp_options.proofs.given.Given.read.Goals as goal

-- Words spell one list of numbers at most.
same_numbers : (words : List (List ℕ)) (one other : List ℕ) → SpellNumbers words one → SpellNumbers words other → one ≡ other
same_numbers [] [] [] a b = refl
same_numbers [] [] (m ∷ ms) a b = absurd b
same_numbers [] (n ∷ ns) other a b = absurd a
same_numbers (word ∷ words) [] other a b = absurd a
same_numbers (word ∷ words) (n ∷ ns) [] a b = absurd b
same_numbers (word ∷ words) (n ∷ ns) (m ∷ ms) (a, first) (b, second) = let heads : n ≡ m = sym a.1 ∙ b.1 in let tails : ns ≡ ms = same_numbers words ns ms first second in cc

told : (found : Found) (name : List ℕ) (words : List (List ℕ)) (list : List ℕ) (r : Option Given) → Some words ≡ given_words found name → SpellNumbers words list
    → MatchOption r (¬ (AreNumbered list)) (λ given. given.list.items ≡ list)
    → MatchOption r (LacksGiven found name) (λ numbers. AreGiven found name numbers.list.items)
told found name words list None is spelled not = λ others numbers others_is spells small numbered.
    let same : words ≡ others = (let both : Some words ≡ Some others = is ∙ others_is in cc) in
    not (subst AreNumbered (same_numbers words numbers list (subst (λ ws. SpellNumbers ws numbers) (sym same) spells) spelled) numbered)
told found name words list (Some given) is spelled same = (words, sym is, subst (SpellNumbers words) (sym same) spelled)

pub returns-in-Some-2 : goal.returns-in-Some-2
returns-in-Some-2 c = told (found_of c.args.given.now) _ _ c.in-Some-2.list.items c.new.result c.in-Some.ensures (rw c.in-Some-2.is at c.in_ok-list.ensures) c.new.ensures
