use Rattle.sp_answer.proofs.RowsWithin.{row_taken_within}
use Rattle.sp_answer.proofs.rows.few_rows.Goals as goal

pub loop-place-preserved : goal.loop-place-preserved
loop-place-preserved g c =
    row_taken_within g.row.P c.args.limit c.args.words.now c.loop-place.place c.index-words-place.result c.loop-place.rows.items c.push_within.new.rows.items c.loop-place-test.true c.index-words-place.is c.loop-place.invariant c.in_ok-push_within.ensures.rows c.in_ok-push_within.ensures.range
