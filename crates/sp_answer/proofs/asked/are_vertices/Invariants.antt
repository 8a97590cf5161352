use Rattle.std.proofs.Common.{ℕ, ◌<◌}
use Rattle.std.specs.Prelude.{slice_index_or}
use Rattle.sp_paths.specs.Paths.{IsVertex}
use Rattle.sp_answer.proofs.asked.are_vertices.Given as goal

abbrev pub invariant-loop-vertex : goal.invariant-loop-vertex
invariant-loop-vertex l = (k d : ℕ) → k < l.vertex-index → IsVertex l.graph.n (slice_index_or l.list k d)
