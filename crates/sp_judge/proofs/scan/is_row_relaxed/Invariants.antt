use Rattle.std.proofs.Common.{ℕ, ◌<◌}
use Rattle.std.specs.Prelude.{slice_index_or}
use Rattle.sp_word.specs.Word.{max_dist}
use Rattle.sp_paths.specs.declared.arc.Arc.{Arc}
use Rattle.sp_paths.specs.Paths.{word_at}
use Rattle.sp_judge.specs.Shown.{IsRelaxedFrom}
use Rattle.sp_judge.proofs.scan.is_row_relaxed.Given as goal

abbrev pub invariant-loop-arc : goal.invariant-loop-arc
invariant-loop-arc g l = (k : ℕ) (d : Arc) → k < l.arc-index → IsRelaxedFrom (max_dist g.row.P) (word_at l.words) l.from (slice_index_or l.row k d)
