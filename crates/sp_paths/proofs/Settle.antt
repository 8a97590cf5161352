-- A bucket whose test passed is final, and a target in it is answered.
use Rattle.std.proofs.Common.{ℕ, ◌+◌, ◌-◌, ◌*◌, ◌<◌, ◌≤◌, ◌⊎◌, inl, inr, [], ◌∷◌, arith, min}
use Rattle.std.proofs.lemmas.Bool.{cases_lt}
use Rattle.sp_word.specs.History.{Table}
use Rattle.sp_paths.specs.Paths.{Graph, IsAtMost, IsClosed}
use Rattle.sp_paths.specs.Theorems.{HasPassed, PassedIsSettled, PassedIsPair}
use Rattle.sp_paths.specs.Forests.{IsClosedTable}
use Rattle.sp_paths.proofs.TheoremProofs.{closed_of, near_word, near_pair}

-- the last distance below the bound, and within max
limit : (max bound : ℕ) → ℕ
limit max bound = min max (bound - 1)

module _ (g : Graph) (s max delta i : ℕ) (words : Table) (passed : HasPassed g s max delta i words) where
  settled_closed : IsClosed g (limit max ((i + 1) * delta)) words
  unfolding limit
  settled_closed u v l a d p e fits = by_kind (cases_lt delta l)
    where
      by_kind : (delta < l) ⊎ (l ≤ delta) → IsAtMost (words v) (d + l) u
      by_kind (inl long) = passed.heavy u v l d p a long e (omega (arith, passed.wide)) (omega arith)
      by_kind (inr short) = passed.light u v l d p a short e (omega (arith, passed.wide)) (omega arith)

  settled_table : IsClosedTable g (s ∷ []) (limit max ((i + 1) * delta)) words
  settled_table = closed_of g s passed.graph passed.source (limit max ((i + 1) * delta)) words passed.table settled_closed

pub passed_is_settled : PassedIsSettled
unfolding limit
passed_is_settled g s max delta i words passed v d least below fits =
    near_word g s (limit max ((i + 1) * delta)) words (settled_table g s max delta i words passed) v d least (omega arith)

-- a target whose word lies in the bucket or before it has its answer
pub passed_is_pair : PassedIsPair
unfolding limit
passed_is_pair g s max delta i words passed t d p at is below fits =
    let found = near_pair g s (limit max ((i + 1) * delta)) words (settled_table g s max delta i words passed) t d p at is (omega arith) in
    ((d, found.0, fits), found.1)
