-- Routes with a vertex more at their end.
use Rattle.std.proofs.Common.{◌≡◌, ℕ, ◌⊎◌, inl, inr, List, [], ◌∷◌, ◌++◌, refl, sym, ap, subst}
use Rattle.sp_paths.specs.Paths.{Graph}
use Rattle.sp_paths.specs.Routes.{IsBefore, GoesOn, IsRoute}

goes_push : (g : Graph) (s u p v : ℕ) (rest : List ℕ) → GoesOn g s u rest p → IsBefore g s p v → GoesOn g s u (rest ++ v ∷ []) v
goes_push g s u p v [] same before = (subst (λ x. IsBefore g s x v) (sym same) before, refl)
goes_push g s u p v (w ∷ rest) (first, more) before = (first, goes_push g s w p v rest more before)

pub route_push : (g : Graph) (s p v : ℕ) (route : List ℕ) → IsRoute g s p route → IsBefore g s p v → IsRoute g s v (route ++ v ∷ [])
route_push g s p v [] is before = absurd is
route_push g s p v (u ∷ rest) (own, more) before = (own, goes_push g s u p v rest more before)

-- the last vertex is the end, and what is before it goes on to its predecessor
pub goes_pop : (g : Graph) (s u v t : ℕ) (rest : List ℕ) → GoesOn g s u (rest ++ v ∷ []) t → (v ≡ t) × (p : ℕ) × GoesOn g s u rest p × IsBefore g s p v
goes_pop g s u v t [] (before, same) = (same, u, refl, before)
goes_pop g s u v t (w ∷ rest) (first, more) = let r = goes_pop g s w v t rest more in (r.0, r.1, (first, r.2), r.3)

-- a list is empty or has a last element
pub last_of : (xs : List ℕ) → (xs ≡ []) ⊎ ((rest : List ℕ) × (x : ℕ) × (xs ≡ rest ++ x ∷ []))
last_of [] = inl refl
last_of (y ∷ xs) = after (last_of xs)
  where
    after : (xs ≡ []) ⊎ ((rest : List ℕ) × (x : ℕ) × (xs ≡ rest ++ x ∷ [])) → (y ∷ xs ≡ []) ⊎ ((rest : List ℕ) × (x : ℕ) × (y ∷ xs ≡ rest ++ x ∷ []))
    after (inl e) = inr ([], y, ap (λ r. y ∷ r) e)
    after (inr (rest, x, e)) = inr (y ∷ rest, x, ap (λ r. y ∷ r) e)
