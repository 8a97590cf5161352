-- The layout that serves a graph.
use Rattle.std.proofs.Common.{◌≡◌, ◌<◌, ◌≤◌, ◌⊎◌, inl, inr, ℕ, true, refl, sym, ap, subst, arith}
use Rattle.sp_word.specs.Word.{is_layout, max_dist, max_pred}
use Rattle.sp_lists.specs.Limits.{IsCount, pred_bits, reach}

-- What holds of each layout where it can name n vertices holds of the one that serves them.
by_bits : (F : ℕ → Type 0) (n : ℕ) → (n ≤ 1048574 → F 20) → (n ≤ 16777214 → F 24) → (n ≤ 268435454 → F 28) → F 32 → F (pred_bits n)
by_bits F n a b c d =
    let first : (n ≤ 1048574) ⊎ (1048574 < n) = grind arith in
    let second : (n ≤ 16777214) ⊎ (16777214 < n) = grind arith in
    let third : (n ≤ 268435454) ⊎ (268435454 < n) = grind arith in
    elim first [
      | inl h ↦ let e : pred_bits n ≡ 20 = grind arith in subst F (sym e) (a h)
      | inr h ↦ elim second [
        | inl i ↦ let e : pred_bits n ≡ 24 = grind arith in subst F (sym e) (b i)
        | inr i ↦ elim third [
          | inl j ↦ let e : pred_bits n ≡ 28 = grind arith in subst F (sym e) (c j)
          | inr j ↦ let e : pred_bits n ≡ 32 = grind arith in subst F (sym e) d
        ]
      ]
    ]

-- It can name them.
pub record Fits (P n : ℕ) : Type 0 where
  pub layout : is_layout P ≡ true
  pub names : n ≤ max_pred P
  pub far : max_dist P ≡ reach n

pub fits : (P n : ℕ) → P ≡ pred_bits n → IsCount n → Fits P n
fits P n bits count = record {
  layout = let L : ℕ → Type 0 = λ p. is_layout p ≡ true in subst L (sym bits) (by_bits L n (λ h. refl) (λ h. refl) (λ h. refl) refl);
  names = let N : ℕ → Type 0 = λ p. n ≤ max_pred p in subst N (sym bits) (by_bits N n (λ h. h) (λ h. h) (λ h. h) count.1);
  far = ap max_dist bits;
}
