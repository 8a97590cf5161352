-- Routes read off words, from their ends.
use Rattle.std.proofs.Common.{◌≡◌, ℕ, ◌<◌, ◌≤◌, ◌⊎◌, inl, inr, List, [], ◌∷◌, ◌++◌, subst, arith}
use Rattle.std.specs.Prelude.{reverse}
use Rattle.std.proofs.lemmas.List.{reverse-append}
use Rattle.sp_word.specs.Word.{Word, Pair, Unreached}
use Rattle.sp_paths.specs.Paths.{Graph, IsGraph, IsVertex, IsLeast, IsTreeWord, word_at}
use Rattle.sp_paths.proofs.Walks.{arc_in, least_same}
use Rattle.sp_paths.proofs.Core.{cases_word}
use Rattle.sp_paths.specs.Routes.{IsBefore, LeadBack}
use Rattle.sp_paths.proofs.Only.{tree_pair_least}

module _ (g : Graph) (s t : ℕ) (words : List Word) (back : LeadBack g s t words) where
  -- a vertex no farther than t is reached, at its least length
  pub reached : (v d : ℕ) → IsLeast g s v d → d ≤ back.dist → (p : ℕ) × (word_at words v ≡ Pair d p)
  reached v d least near = go (cases_word (word_at words v)) (back.final v d least near)
    where
      go : ((e p : ℕ) × (word_at words v ≡ Pair e p)) ⊎ (word_at words v ≡ Unreached) → IsTreeWord g s v (word_at words v) → (p : ℕ) × (word_at words v ≡ Pair d p)
      go (inl (e, p, is)) h =
          let same : e ≡ d = least_same g s v e d (tree_pair_least g s v e p (subst (IsTreeWord g s v) is h)) least in
          (p, subst (λ x. word_at words v ≡ Pair x p) same is)
      go (inr none) h = let no_walk : IsTreeWord g s v Unreached = subst (IsTreeWord g s v) none h in absurd (no_walk d least.walk)

  -- the predecessor of a vertex that isn't the source
  pub step : (v d p : ℕ) → IsGraph g → word_at words v ≡ Pair d p → (v ≡ s → ⊥) → IsLeast g s v d → d ≤ back.dist → IsBefore g s p v × IsVertex g.n p × (c : ℕ) × IsLeast g s p c × (c < d)
  step v d p gr is other least near = go (subst (IsTreeWord g s v) is (back.final v d least near))
    where
      go : IsTreeWord g s v (Pair d p) → IsBefore g s p v × IsVertex g.n p × (c : ℕ) × IsLeast g s p c × (c < d)
      go (inl own) = absurd (other own.0)
      go (inr (other', pair)) =
          let (c, l, before, a, sum) = pair.before in
          let ends = arc_in g gr p v l a in
          ((other', d, pair), ends.0, c, before, omega (arith, ends.2, sum))

-- the list that was read so far, with one more vertex, read from its end
pub reverse_push : (xs : List ℕ) (x : ℕ) → reverse (xs ++ x ∷ []) ≡ x ∷ reverse xs
reverse_push xs x = reverse-append xs (x ∷ [])
