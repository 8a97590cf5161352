use Rattle.std.proofs.Common.{take}
use Rattle.sp_jobs.specs.Told.{AreDone}
use Rattle.sp_jobs.proofs.answering.answer_alone.Given as goal

abbrev pub invariant-loop-source : goal.invariant-loop-source
invariant-loop-source g l = AreDone (g.Q.Question.answers l.question) (take l.source-index l.asked.sources.now) g.W.Write l.fn.out l.summary l.out
