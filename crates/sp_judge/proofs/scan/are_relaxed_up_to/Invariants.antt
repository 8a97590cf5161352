use Rattle.std.proofs.Common.{ℕ, ◌<◌}
use Rattle.std.specs.Prelude.{slice_index_or}
use Rattle.sp_word.specs.Word.{max_dist}
use Rattle.sp_paths.specs.Paths.{word_at}
use Rattle.sp_judge.specs.Shown.{IsRowClosedUpTo}
use Rattle.sp_judge.proofs.scan.are_relaxed_up_to.Given as goal

abbrev pub invariant-loop-vertex : goal.invariant-loop-vertex
invariant-loop-vertex g l = (k d : ℕ) → k < l.vertex-index → IsRowClosedUpTo l.graph (max_dist g.row.P) l.far (word_at l.words) (slice_index_or l.vertices k d)
