use Rattle.std.proofs.Common.{◌+◌, cond, length}
use Rattle.sp_word.specs.Word.{max_dist}
use Rattle.sp_judge.specs.Passing.{total_rank}
use Rattle.sp_judge.proofs.TableSteps.{IsRelaxing}
use Rattle.sp_judge.proofs.pass.relax_all.Given as goal

abbrev pub invariant-loop-changed : goal.invariant-loop-changed
invariant-loop-changed g l = IsRelaxing (length l.initial.words.items) (max_dist g.row.P) l.arcs l.initial.words.items l.words.items l.changed

abbrev pub decreases-loop-changed : goal.decreases-loop-changed
decreases-loop-changed g l = total_rank (max_dist g.row.P) l.words.items + cond l.changed 1 0
