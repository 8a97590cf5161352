use Rattle.std.proofs.Common.{take}
use Rattle.sp_jobs.specs.Steps.{AreFound}
use Rattle.sp_jobs.proofs.finding.find_in_turn.Given as goal

abbrev pub invariant-loop-source : goal.invariant-loop-source
invariant-loop-source g l = AreFound g.Q.Question.told (g.Q.Question.answers l.question) (take l.source-index l.sources) l.group.items
