use Rattle.std.proofs.Common.{◌+◌}
use Rattle.sp_word.specs.Word.{max_dist}
use Rattle.sp_paths.specs.Paths.{word_at}
use Rattle.sp_judge.specs.Marked.{ShowsBetween}
use Rattle.sp_judge.proofs.marked.scan_rows.Given as goal

abbrev pub invariant-loop-place : goal.invariant-loop-place
invariant-loop-place g l = ShowsBetween (max_dist g.row.P) l.graph (word_at l.words) l.low (l.low + l.place) l.told
