use Rattle.std.proofs.Common.{◌≡◌, take}
use Rattle.std.specs.List.{All}
use Rattle.sp_word.specs.Word.{Fits}
use Rattle.sp_answer.specs.ForestTable.{rows_from}
use Rattle.sp_answer.specs.Rooted.{root_at}
use Rattle.sp_answer.proofs.rows.rooted_rows_of.Given as goal

abbrev pub invariant-loop-place : goal.invariant-loop-place
invariant-loop-place g l = (l.rows.items ≡ rows_from (root_at l.roots) 1 (take l.place l.words)) × All (Fits g.row.P) (take l.place l.words)
