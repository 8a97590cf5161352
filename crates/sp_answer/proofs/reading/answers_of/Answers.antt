use Rattle.std.proofs.Common.{rules}
use Rattle.sp_answer.proofs.TargetAnswers.{as_many}
use Rattle.sp_answer.proofs.reading.answers_of.Goals as goal

pub returns-in-Ok-answers-clause-size : goal.returns-in-Ok-answers-clause-size
returns-in-Ok-answers-clause-size g c = as_many (g.A.TargetAnswer.is_answer c.args.graph.now c.args.source) c.args.targets.now c.in-Ok-answers.answers.items (search rules)
