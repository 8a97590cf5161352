use Rattle.sp_answer.proofs.CountedWords.{one_more}
use Rattle.sp_answer.proofs.rows.count_reached.Goals as goal

pub loop-word-preserved : goal.loop-word-preserved
loop-word-preserved g c =
    one_more g.row.P c.args.words.now c.loop-word.word-index c.loop-word.reached c.rows_of_word-reached.result c.word-item.result c.loop-word-test.true c.word-item.is c.loop-word.invariant c.rows_of_word-reached.ensures.count c.rows_of_word-reached.ensures.range
