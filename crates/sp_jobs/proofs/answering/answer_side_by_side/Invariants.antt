use Rattle.std.proofs.Common.{length}
use Rattle.sp_jobs.proofs.ToldInOrder.{IsBetween}
use Rattle.sp_jobs.proofs.answering.answer_side_by_side.Given as goal

abbrev pub invariant-loop-rest : goal.invariant-loop-rest
invariant-loop-rest g l = IsBetween g.Q.Question.told (g.Q.Question.answers l.question) l.asked.sources.now g.W.Write l.fn.out l.summary l.out l.waiting.items l.rest

abbrev pub decreases-loop-rest : goal.decreases-loop-rest
decreases-loop-rest g l = length l.rest
