use Rattle.std.proofs.Common.{rules}
use Rattle.sp_answer.proofs.TargetAnswers.{as_many}
use Rattle.sp_serial.proofs.near.answers_near.Goals as goal

pub returns-in-Some-clause-size : goal.returns-in-Some-clause-size
returns-in-Some-clause-size g c = as_many (g.A.TargetAnswer.is_answer c.args.graph.now c.args.source) c.args.targets.now c.in-Some.answers.items (search rules)
