-- What stands among entries.
use Rattle.std.proofs.Common.{◌≡◌, ◌≤◌, length, Some, sym, ap, true≢false, suc, zero, List, [], ◌∷◌, ◌++◌, refl, arith, rules}
use Rattle.std.specs.Prelude.{All, Any, ◌≢◌, is_some, slice_get}
use Rattle.std.proofs.lemmas.List.Elements.{All-nil, All-cons, All-head, All-tail}

module _ {X : Type 0} (P : X → Type 0) where
  pub Any-head : (x : X) (xs : List X) → P x → Any P (x ∷ xs)
  Any-head x xs p = (0, x, omega arith, refl, p)

  pub Any-tail : (x : X) (xs : List X) → Any P xs → Any P (x ∷ xs)
  Any-tail x xs any = (suc any.0, any.1, omega arith, any.3, any.4)

  pub Any-behind : (xs ys : List X) → Any P ys → Any P (xs ++ ys)
  Any-behind [] ys any = any
  Any-behind (x ∷ xs) ys any = Any-tail x (xs ++ ys) (Any-behind xs ys any)

  pub Any-before : (xs ys : List X) → Any P xs → Any P (xs ++ ys)
  Any-before [] ys any = absurd (omega arith)
  Any-before (x ∷ xs) ys (zero, y, l, e, p) = (zero, y, omega arith, e, p)
  Any-before (x ∷ xs) ys (suc k, y, l, e, p) = Any-tail x (xs ++ ys) (Any-before xs ys (k, y, omega arith, e, p))

  -- an element of a list that isn't empty
  pub Any-first : (xs : List X) → xs ≢ [] → ((x : X) (rest : List X) → xs ≡ x ∷ rest → P x) → Any P xs
  Any-first [] some each = absurd (some refl)
  Any-first (x ∷ xs) some each = Any-head x xs (each x xs refl)

  pub Any-nonempty : (xs : List X) → Any P xs → xs ≢ []
  Any-nonempty [] any e = absurd (omega arith)
  Any-nonempty (x ∷ xs) any e = search rules

  pub All-before : (xs ys : List X) → All P (xs ++ ys) → All P xs
  All-before [] ys all = All-nil P
  All-before (x ∷ xs) ys all = All-cons P x xs (All-head P x (xs ++ ys) all) (All-before xs ys (All-tail P x (xs ++ ys) all))

  pub All-behind : (xs ys : List X) → All P (xs ++ ys) → All P ys
  All-behind [] ys all = all
  All-behind (x ∷ xs) ys all = All-behind xs ys (All-tail P x (xs ++ ys) all)

  pub first_is : (xs : List X) (x : X) → Some x ≡ slice_get xs 0 → (rest : List X) × (xs ≡ x ∷ rest)
  first_is [] x e = absurd (true≢false (ap is_some e))
  first_is (y ∷ ys) x e = let same : x ≡ y = cc in (ys, ap (λ (z : X). z ∷ ys) (sym same))

  pub empty_is : (xs : List X) → length xs ≤ 0 → xs ≡ []
  empty_is [] short = refl
  empty_is (x ∷ xs) short = absurd (omega arith)
