-- One item more in a row.
use Rattle.std.proofs.Common.{⊎_elim, ◌≡◌, ◌≢◌, ℕ, ◌+◌, ◌-◌, ◌<◌, ◌≤◌, true, false, cond, eqb, List, [], ◌∷◌, ◌++◌, length, map, take, set, get_or, sym, ap, ◌∙◌, arith, get_or-set_same, get_or-set_other}
use Rattle.std.proofs.lemmas.List.{append-nil, map-set, take-map, get_or-map, length-map}
use Rattle.std.proofs.lemmas.Bool.{eq-eqb, ne_eqb, cases_eq}

pub pushed_at : {A B : Type 0} (f : A → List B) (xs : List A) (place : ℕ) (old new : A) (item : B) (actor other : ℕ) (before : List B) → place + 1 ≤ length xs → old ≡ get_or xs place old → f new ≡ f old ++ item ∷ [] → 1 ≤ actor → place ≡ actor - 1 → 1 ≤ other → get_or (map f xs) (other - 1) [] ≡ before
    → get_or (map f (set xs place new)) (other - 1) [] ≡ before ++ cond (eqb actor other) (item ∷ []) []
pushed_at f xs place old new item actor other before within is pushed some at there same_before =
    let short : place < length (map f xs) = omega (arith, length-map xs f) in
    let inside : place < length xs = omega arith in
    ⊎_elim
    (λ (same : actor ≡ other).
    let here : other - 1 ≡ place = omega arith in
    let one : eqb actor other ≡ true = eq-eqb actor other same in
    let was : get_or (map f xs) place [] ≡ f old = get_or-map f xs place old [] inside ∙ ap f (sym is) in
    rw (← same_before, here, one, was, map-set f xs place new, get_or-set_same (map f xs) place (f new) [] short) pushed)
    (λ (ne : actor ≢ other).
    let away : other - 1 ≢ place = omega arith in
    let none : eqb actor other ≡ false = ne_eqb actor other ne in
    rw (← same_before, none, map-set f xs place new, get_or-set_other (map f xs) place (other - 1) (f new) [] away) (sym (append-nil (get_or (map f xs) (other - 1) []))))
    (cases_eq actor other)

-- the first rows
pub first_rows : {A B : Type 0} (f : A → B) (n : ℕ) (xs : List A) (view : List B) → map f xs ≡ view → map f (take n xs) ≡ take n view
first_rows f n xs view is = rw (← is) (sym (take-map f n xs))
