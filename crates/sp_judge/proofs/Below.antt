-- A word beside a pair: whether it is at most the pair, or the pair is below it.
use Rattle.std.proofs.Common.{◌≡◌, ℕ, ◌<◌, ◌≤◌, ◌⊎◌, inl, inr, Some, sym, ap, arith}
use Rattle.std.specs.Prelude.{unwrap_or}
use Rattle.std.proofs.lemmas.Bool.{cases_lt, cases_order}
use Rattle.sp_word.specs.Word.{Word, Unreached, Pair, IsBelow, dist_of}
use Rattle.sp_paths.specs.Paths.{IsAtMost}

-- a distance is that of a pair
pub pair_of : (w : Word) (d : ℕ) → dist_of w ≡ Some d → (p : ℕ) × (w ≡ Pair d p)
pair_of Unreached d e = absurd (cc)
pair_of (Pair c p) d e = (p, ap (λ o. Pair (unwrap_or o 0) p) e)

-- what is below a word is not above it
pub below_not : (w : Word) (d p : ℕ) → IsBelow (Pair d p) w → IsAtMost w d p → ⊥
below_not Unreached d p h k = k
below_not (Pair e q) d p (inl h) (inl k) = omega arith
below_not (Pair e q) d p (inl h) (inr k) = omega (arith, k.0)
below_not (Pair e q) d p (inr h) (inl k) = omega (arith, h.0)
below_not (Pair e q) d p (inr h) (inr k) = omega (arith, h.1, k.1)

pub not_below : (w : Word) (d p : ℕ) → (IsBelow (Pair d p) w → ⊥) → IsAtMost w d p
not_below Unreached d p h = h tt
not_below (Pair e q) d p h = go (cases_order e d) (cases_lt p q)
  where
    go : (e ≡ d) ⊎ ((e < d) ⊎ (d < e)) → (p < q) ⊎ (q ≤ p) → (e < d) ⊎ ((e ≡ d) × (q ≤ p))
    go (inl s) (inl k) = absurd (h (inr (sym s, k)))
    go (inl s) (inr k) = inr (s, k)
    go (inr (inl s)) k = inl s
    go (inr (inr s)) k = absurd (h (inl s))
