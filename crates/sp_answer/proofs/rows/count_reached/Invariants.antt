use Rattle.sp_answer.proofs.CountedWords.{IsCount}
use Rattle.sp_answer.proofs.rows.count_reached.Given as goal

abbrev pub invariant-loop-word : goal.invariant-loop-word
invariant-loop-word g l = IsCount g.row.P l.words l.word-index l.reached
