use Rattle.std.proofs.Common.{ℕ, ◌≡◌, ◌<◌, Some}
use Rattle.std.specs.Prelude.{slice_get}
use Rattle.sp_paths.specs.Paths.{IsVertex}
use Rattle.sp_lists.proofs.limits.first_non_vertex.Given as goal

abbrev pub invariant-loop-place : goal.invariant-loop-place
invariant-loop-place l = (k s : ℕ) → k < l.place → slice_get l.vertices k ≡ Some s → IsVertex l.n s
