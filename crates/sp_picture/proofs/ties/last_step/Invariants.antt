use Rattle.std.proofs.Common.{◌≡◌}
use Rattle.sp_picture.proofs.Lasts.{IsLastBelow}
use Rattle.sp_picture.proofs.ties.last_step.Given as goal

abbrev pub invariant-loop-place : goal.invariant-loop-place
invariant-loop-place g l = IsLastBelow (λ mark. mark.actor ≡ l.actor) l.marks l.place l.last
