use Rattle.std.proofs.Common.{◌≡◌, ◌<◌, ◌^◌, ℕ, List, [], ◌∷◌, ◌++◌, All, Some, None, Result, Ok, sym, subst, arith, suc, append_assoc, append-nil}
use Rattle.std.specs.Str.Parse.{ParsesUnsigned}
use Rattle.clap.specs.Matches.{values_left, StepsValues}
use Rattle.sp_options.specs.Numbers.{SpellsNumber, SpellNumbers}
use Rattle.sp_options.proofs.given.numbers_of.Goals as goal

abbrev Gives : Type 0 → Type 1
Gives E = List ℕ → Result ℕ E → Type 0

-- A text from which a number is read spells it.
read_is : {E : Type 0} (text : List ℕ) (n : ℕ) (value : Result ℕ E) → ParsesUnsigned {E = E} 32 10 text value → value ≡ Ok n → SpellsNumber text n
read_is {E} text n value parses is = let at_ok : ParsesUnsigned {E = E} 32 10 text (Ok n) = subst (ParsesUnsigned {E = E} 32 10 text) is parses in (at_ok.0.0, sym at_ok.1)

-- One more number is read.
one_more : {E : Type 0} (gives : Gives E) (parses : (t : List ℕ) (r : Result ℕ E) → gives t r → ParsesUnsigned {E = E} 32 10 t r) (before after start : List (List ℕ)) (value : Result ℕ E) (n : ℕ) (items more : List ℕ)
    → StepsValues gives before after (Some value) → value ≡ Ok n
    → ((rest : List ℕ) → SpellNumbers before rest → SpellNumbers start (items ++ rest))
    → SpellNumbers after more → SpellNumbers start ((items ++ n ∷ []) ++ more)
one_more gives parses [] after start value n items more steps is read spelled = absurd steps
one_more gives parses (text ∷ texts) after start value n items more (given, left) is read spelled =
    rw append_assoc (read (n ∷ more) (read_is text n value (parses text value given) is, subst (λ t. SpellNumbers t more) left spelled))

-- What spells no more numbers after one spelled none before it.
none_before : {E : Type 0} (gives : Gives E) (before after : List (List ℕ)) (value : Result ℕ E)
    → StepsValues gives before after (Some value)
    → ((rest : List ℕ) → SpellNumbers after rest → All (λ v. v < 2 ^ 32) rest → ⊥)
    → (more : List ℕ) → SpellNumbers before more → All (λ v. v < 2 ^ 32) more → ⊥
none_before gives [] after value steps none more = absurd steps
none_before gives (text ∷ texts) after value steps none [] = λ spelled small. spelled
none_before gives (text ∷ texts) after value (given, left) none (n ∷ more) = λ spelled small. none more (subst (λ t. SpellNumbers t more) (sym left) spelled.1) (λ k d within. small (suc k) d (omega arith))

-- Where nothing is left, all was read.
at_end : {E : Type 0} (gives : Gives E) (before after start : List (List ℕ)) (items : List ℕ)
    → StepsValues gives before after None
    → ((rest : List ℕ) → SpellNumbers before rest → SpellNumbers start (items ++ rest))
    → SpellNumbers start items
at_end gives [] after start items steps read = rw append-nil at (read [] tt)
at_end gives (text ∷ texts) after start items steps read = absurd steps

pub loop-value-preserved : goal.loop-value-preserved
loop-value-preserved c = record {
  can = tt;
  finite = tt;
  read = λ more spelled. subst (λ items. SpellNumbers (values_left c.args.values) (items ++ more)) (sym c.in_ok-push.ensures.items)
      (one_more _ (λ t r given. given.0) _ _ _ _ _ _ more c.in-Some.ensures.steps c.in-Ok.is c.loop-value.invariant.read spelled);
  refused = λ none. c.loop-value.invariant.refused (none_before _ _ _ _ c.in-Some.ensures.steps none);
}

pub returns : goal.returns
returns c = at_end _ _ _ _ _ c.in-None.ensures.steps c.loop-value.invariant.read
