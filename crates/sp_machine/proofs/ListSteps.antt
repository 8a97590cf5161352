-- What lists keep that go on or change at one place.
use Rattle.std.proofs.Common.{◌≡◌, ℕ, zero, suc, ◌+◌, ◌<◌, ◌≤◌, ◌⊎◌, inl, inr, List, [], ◌∷◌, ◌++◌, length, get_or, set, replicate, refl, ap, arith}
use Rattle.std.specs.Prelude.{All, map}
use Rattle.std.specs.List.Sorted.{IsStrictlyIncreasing}
use Rattle.std.proofs.lemmas.Bool.{cases_eq, cases_lt}
use Rattle.std.proofs.lemmas.List.{length_push, get_or_append_left, get_or_push, get_or-set_same, get_or-set_other, set_past}

-- numbers rise with one more that is greater than all
pub rising_push : (xs : List ℕ) (y : ℕ) → IsStrictlyIncreasing xs → All (λ x. x < y) xs → IsStrictlyIncreasing (xs ++ y ∷ [])
rising_push xs y rising less k inside = go (cases_lt (k + 1) (length xs))
  where
    go : (k + 1 < length xs) ⊎ (length xs ≤ k + 1) → get_or (xs ++ y ∷ []) k 0 < get_or (xs ++ y ∷ []) (k + 1) 0
    go (inl before) = rw (get_or_append_left xs (y ∷ []) 0 k (omega arith), get_or_append_left xs (y ∷ []) 0 (k + 1) before) (rising k before)
    go (inr last) =
        let here : length xs ≡ k + 1 = omega (arith, length_push xs y) in
        rw (get_or_append_left xs (y ∷ []) 0 k (omega arith), get_or_push xs y 0 (k + 1) here) (less k 0 (omega arith))

-- one map after another
pub map-map : {A B C : Type 0} (f : B → C) (g : A → B) (xs : List A) → map f (map g xs) ≡ map (λ x. f (g x)) xs
map-map f g [] = refl
map-map f g (x ∷ xs) = ap (λ ys. f (g x) ∷ ys) (map-map f g xs)

-- what holds at each place holds after a change at one
pub each_set : {A : Type 0} (F : ℕ → A → Type 0) (xs : List A) (i : ℕ) (y d : A) → F i y → ((j : ℕ) → F j (get_or xs j d)) → (j : ℕ) → F j (get_or (set xs i y) j d)
each_set F xs i y d here each j = go (cases_eq j i) (cases_lt i (length xs))
  where
    go : (j ≡ i) ⊎ (j ≡ i → ⊥) → (i < length xs) ⊎ (length xs ≤ i) → F j (get_or (set xs i y) j d)
    go (inl same) (inl inside) = rw (same, get_or-set_same xs i y d inside) here
    go (inl same) (inr past) = rw (set_past xs i y past) (each j)
    go (inr other) side = rw (get_or-set_other xs i j y d other) (each j)

-- any element of copies of the default
pub copy_at : {A : Type 0} (n i : ℕ) (d : A) → get_or (replicate n d) i d ≡ d
copy_at zero i d = refl
copy_at (suc n) zero d = refl
copy_at (suc n) (suc i) d = copy_at n i d
