use Rattle.std.proofs.Common.{ℕ, refl}
use Rattle.sp_word.specs.Word.{Word}
use Rattle.sp_answer.specs.Table.{row_of, rows_from}
use Rattle.sp_answer.proofs.VertexRows.{row_taken}
use Rattle.sp_answer.proofs.rows.rows_of.Goals as goal

pub loop-place-preserved : goal.loop-place-preserved
loop-place-preserved g c =
    row_taken (ℕ × Word) row_of rows_from (λ v. refl) (λ v w words. refl) g.row.P c.args.words.now c.loop-place.place c.index-words-place.result c.loop-place.rows.items c.push_reached.new.rows.items c.loop-place-test.true c.index-words-place.is c.loop-place.invariant c.in_ok-push_reached.ensures.rows c.in_ok-push_reached.ensures.range
