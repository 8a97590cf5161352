-- Sums over the places below a number.
use Rattle.std.proofs.Common.{◌≡◌, ℕ, zero, suc, ◌+◌, ◌<◌, ◌≤◌, ◌⊎◌, inl, inr, refl, arith}
use Rattle.std.proofs.lemmas.Bool.{cases_eq}

-- the sum of a function of the places below a number
abbrev pub total : (ℕ → ℕ) → ℕ → ℕ
total f zero = 0
total f (suc k) = total f k + f k

-- a sum of lesser numbers is less
total_le : (f g : ℕ → ℕ) (k : ℕ) → ((j : ℕ) → j < k → g j ≤ f j) → total g k ≤ total f k
total_le f g zero less = omega arith
total_le f g (suc k) less = omega (arith, total_le f g k (λ j h. less j (omega arith)), less k (omega arith))

-- it is less by what one of them is less
pub total_falls : (f g : ℕ → ℕ) (k i by : ℕ) → i < k → g i + by ≤ f i → ((j : ℕ) → (j ≡ i → ⊥) → g j ≤ f j) → total g k + by ≤ total f k
total_falls f g zero i by inside here others = absurd (omega arith)
total_falls f g (suc k) i by inside here others = go (cases_eq k i) (λ h. total_falls f g k i by h here others)
  where
    go : (k ≡ i) ⊎ (k ≡ i → ⊥) → (i < k → total g k + by ≤ total f k) → total g k + g k + by ≤ total f k + f k
    go (inl same) rest = let last : g k + by ≤ f k = rw same here in omega (arith, total_le f g k (λ j h. others j (omega arith)), last)
    go (inr other) rest = omega (arith, rest (omega arith), others k other)

-- a sum of ones
pub total_ones : (k : ℕ) → total (λ i. 1) k ≡ k
total_ones zero = refl
total_ones (suc k) = omega (arith, total_ones k)
