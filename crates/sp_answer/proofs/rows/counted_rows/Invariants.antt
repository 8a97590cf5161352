use Rattle.std.proofs.Common.{◌≡◌, take}
use Rattle.std.specs.Prelude.{All, map}
use Rattle.sp_word.specs.Word.{Fits}
use Rattle.sp_answer.specs.Table.{rows_from}
use Rattle.sp_answer.specs.Within.{up_to}
use Rattle.sp_answer.proofs.rows.counted_rows.Given as goal

abbrev pub invariant-loop-place : goal.invariant-loop-place
invariant-loop-place g l = (l.rows.items ≡ rows_from 1 (map (up_to l.limit) (take l.place l.words))) × All (Fits g.row.P) (take l.place l.words)
