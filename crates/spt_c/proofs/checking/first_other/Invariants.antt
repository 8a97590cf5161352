use Rattle.std.proofs.Common.{ℕ, ◌<◌}
use Rattle.sp_lists.specs.Blocks.{slices, HasSameAt}
use Rattle.spt_c.proofs.checking.first_other.Given as goal

abbrev pub invariant-loop-place : goal.invariant-loop-place
invariant-loop-place l = (k : ℕ) → k < l.place → HasSameAt (slices l.right_dist l.right_pred) (slices l.dist l.pred) k
