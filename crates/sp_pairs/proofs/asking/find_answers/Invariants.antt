use Rattle.sp_pairs.specs.Slots.{AreHeld, AreFirstClosed}
use Rattle.sp_pairs.proofs.asking.find_answers.Given as goal

abbrev pub invariant-loop-place : goal.invariant-loop-place
invariant-loop-place g l = AreHeld g.A.TargetAnswer.is_answer l.job.graph.now l.pairs l.slots.items × AreFirstClosed l.place l.slots.items
