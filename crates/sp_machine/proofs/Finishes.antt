-- Sets of finished relaxations, and what they show.
use Rattle.std.proofs.Common.{◌≡◌, ℕ, Bool, true, false, ◌&&◌, ◌||◌, cond, List, [], ◌∷◌, ◌++◌, refl, sym, ap, ◌∙◌, subst, Option, Some, None}
use Rattle.std.proofs.lemmas.Bool.{eqb-true, eq-eqb}
use Rattle.std.proofs.lemmas.List.Folds.{list_any-append}
use Rattle.std.proofs.lemmas.Map.Views.{list_any-from_Contains, Contains-from_any}
use Rattle.std.specs.Cmp.{IsEquivalence}
use Rattle.std.specs.List.{list_any}
use Rattle.std.specs.Option.{option_eq}
use Rattle.std.specs.Prelude.{Contains, IsTrue, ◌↔◌, nat_eq}
use Rattle.std.specs.HashSet.{HashSet, contains}
use Rattle.sp_word.specs.Word.{Word, Unreached, Pair, dist_of}
use Rattle.sp_machine.specs.declared.effect.Relaxation.{Relaxation}
use Rattle.sp_machine.specs.declared.item.Item.TheVariants.{Relax}
use Rattle.sp_paths.specs.Paths.{word_at}
use Rattle.sp_machine.specs.Run.{IsItemClosed}
use Rattle.sp_machine.specs.Closing.{same_relaxation, HasJust}

-- ## Two relaxations that pass the test are one

both : (a b : Bool) → (a && b) ≡ true → (a ≡ true) × (b ≡ true)
both true b h = (refl, h)
both false b h = cc

same_option : (a b : Option ℕ) → option_eq nat_eq a b ≡ true → a ≡ b
same_option None None h = refl
same_option None (Some y) h = cc
same_option (Some x) None h = cc
same_option (Some x) (Some y) h = ap Some (eqb-true x y h)

option_itself : (a : Option ℕ) → option_eq nat_eq a a ≡ true
option_itself None = refl
option_itself (Some x) = eq-eqb x x refl

pub same_exact : (a b : Relaxation) → same_relaxation a b ≡ true → a ≡ b
same_exact a b h =
    let tails = both (nat_eq a.tail b.tail) _ h in
    let heads = both (nat_eq a.head b.head) _ tails.1 in
    let lens = both (nat_eq a.len b.len) _ heads.1 in
    let t : a.tail ≡ b.tail = eqb-true a.tail b.tail tails.0 in
    let u : a.head ≡ b.head = eqb-true a.head b.head heads.0 in
    let l : a.len ≡ b.len = eqb-true a.len b.len lens.0 in
    let o : a.loaded ≡ b.loaded = same_option a.loaded b.loaded lens.1 in
    ap (λ x. record { tail = x; head = a.head; len = a.len; loaded = a.loaded }) t
    ∙ ap (λ x. record { tail = b.tail; head = x; len = a.len; loaded = a.loaded }) u
    ∙ ap (λ x. record { tail = b.tail; head = b.head; len = x; loaded = a.loaded }) l
    ∙ ap (λ x. record { tail = b.tail; head = b.head; len = b.len; loaded = x }) o

pub same_itself : (a : Relaxation) → same_relaxation a a ≡ true
same_itself a = rw (eq-eqb a.tail a.tail refl, eq-eqb a.head a.head refl, eq-eqb a.len a.len refl) (option_itself a.loaded)

same_turned : (a b : Relaxation) (t u : Bool) → same_relaxation a b ≡ t → same_relaxation b a ≡ u → t ≡ u
same_turned a b true true h k = refl
same_turned a b false false h k = refl
same_turned a b true false h k = let e : a ≡ b = same_exact a b h in let m : true ≡ false = sym (same_itself a) ∙ subst (λ (c : Relaxation). same_relaxation c a ≡ false) (sym e) k in cc
same_turned a b false true h k = let e : b ≡ a = same_exact b a k in let m : true ≡ false = sym (same_itself b) ∙ subst (λ (c : Relaxation). same_relaxation c b ≡ false) (sym e) h in cc

pub same_symmetric : (a b : Relaxation) → same_relaxation a b ≡ same_relaxation b a
same_symmetric a b = same_turned a b _ _ refl refl

pub same_equivalence : IsEquivalence same_relaxation
same_equivalence = record {
  refl = same_itself;
  symm = same_symmetric;
  congr = λ x y z h. ap (λ c. same_relaxation c z) (same_exact x y h);
}

-- ## A set of relaxations

-- one more is put into the set
pub one_more : (k r : Relaxation) (before : Bool) (some : List Relaxation) → before ≡ list_any (same_relaxation r) some → cond (same_relaxation k r) true before ≡ list_any (same_relaxation r) (some ++ k ∷ [])
one_more k r before some h =
    either_way (same_relaxation k r) before
    ∙ ap (λ b. b || (same_relaxation k r || false)) h
    ∙ ap (λ t. list_any (same_relaxation r) some || (t || false)) (same_symmetric k r)
    ∙ sym (list_any-append (same_relaxation r) some (k ∷ []))
  where
    either_way : (t b : Bool) → cond t true b ≡ (b || (t || false))
    either_way true true = refl
    either_way true false = refl
    either_way false true = refl
    either_way false false = refl

-- what the set has was finished
pub has_finished : {S : Type 0} (set : HashSet Relaxation S) (relaxed : List Relaxation) (r : Relaxation) → HasJust set relaxed → contains same_relaxation set r ≡ true → Contains relaxed r
has_finished set relaxed r just has = Contains-from_any same_exact r relaxed (sym (just r) ∙ has)

pub finished_is_had : {S : Type 0} (set : HashSet Relaxation S) (relaxed : List Relaxation) (r : Relaxation) → HasJust set relaxed → Contains relaxed r → contains same_relaxation set r ≡ true
finished_is_had set relaxed r just has = just r ∙ list_any-from_Contains same_equivalence r relaxed has

-- ## An item

no_pair : (w : Word) → dist_of w ≡ None → (d q : ℕ) → w ≡ Pair d q → ⊥
no_pair w none d q is = let e : None ≡ Some d = sym none ∙ ap dist_of is in cc

some_pair : (w : Word) (d : ℕ) → dist_of w ≡ Some d → (q : ℕ) × (w ≡ Pair d q)
some_pair Unreached d e = cc
some_pair (Pair c q) d e = let same : c ≡ d = cc in (q, ap (λ x. Pair x q) same)

-- an arc whose tail is unreached
pub unreached_closed : (P : ℕ) (words : List Word) (relaxed : List Relaxation) (u v l : ℕ) → dist_of (word_at words u) ≡ None → IsItemClosed {P = P} words relaxed (Relax u v l)
unreached_closed P words relaxed u v l none d q is = absurd (no_pair (word_at words u) none d q is)

-- an arc whose tail is reached
pub reached_closed : (P : ℕ) {S : Type 0} (set : HashSet Relaxation S) (words : List Word) (relaxed : List Relaxation) (u v l d : ℕ) (has : Bool) → HasJust set relaxed → dist_of (word_at words u) ≡ Some d
    → has ≡ contains same_relaxation set (record { tail = u; head = v; len = l; loaded = Some d }) → IsTrue has ↔ IsItemClosed {P = P} words relaxed (Relax u v l)
reached_closed P set words relaxed u v l d has just reached is = (closed, had)
  where
    closed : IsTrue has → IsItemClosed {P = P} words relaxed (Relax u v l)
    closed had_it e q at_end =
        let same : Some d ≡ Some e = sym reached ∙ ap dist_of at_end in
        subst (λ x. Contains relaxed (record { tail = u; head = v; len = l; loaded = x })) same (has_finished set relaxed _ just (sym is ∙ had_it))

    had : IsItemClosed {P = P} words relaxed (Relax u v l) → IsTrue has
    had all = let there = some_pair (word_at words u) d reached in is ∙ finished_is_had set relaxed _ just (all d there.0 there.1)
