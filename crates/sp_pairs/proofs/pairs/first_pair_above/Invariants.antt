use Rattle.std.proofs.Common.{ℕ, ◌≡◌, ◌<◌, Some}
use Rattle.std.specs.Prelude.{slice_get}
use Rattle.sp_pairs.specs.Pairs.{IsPairUpTo}
use Rattle.sp_pairs.proofs.pairs.first_pair_above.Given as goal

abbrev pub invariant-loop-source : goal.invariant-loop-source
invariant-loop-source l = (k : ℕ) (pair : ℕ × ℕ) → k < l.source-index → slice_get l.pairs k ≡ Some pair → IsPairUpTo l.n pair
