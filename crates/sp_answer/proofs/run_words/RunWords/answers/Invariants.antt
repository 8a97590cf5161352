use Rattle.std.proofs.Common.{take}
use Rattle.sp_answer.specs.Run.{AreAnswersBy}
use Rattle.sp_answer.proofs.run_words.RunWords.answers.Given as goal

abbrev pub invariant-loop-target : goal.invariant-loop-target
invariant-loop-target g l = AreAnswersBy (g.A.TargetAnswer.is_answer l.graph l.source) (take l.target-index l.targets) l.answers.items
