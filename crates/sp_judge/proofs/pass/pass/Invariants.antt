use Rattle.std.proofs.Common.{length}
use Rattle.sp_word.specs.Word.{max_dist}
use Rattle.sp_judge.proofs.PassSteps.{IsPassing}
use Rattle.sp_judge.proofs.pass.pass.Given as goal

abbrev pub invariant-loop-arc : goal.invariant-loop-arc
invariant-loop-arc g l = IsPassing (length l.initial.words.items) (max_dist g.row.P) l.arcs l.arc-index l.initial.words.items l.words.items l.changed
