use Rattle.sp_picture.specs.Marks.{IsStoreTo}
use Rattle.sp_picture.proofs.Lasts.{IsLastBelow}
use Rattle.sp_picture.proofs.ties.last_store.Given as goal

abbrev pub invariant-loop-place : goal.invariant-loop-place
invariant-loop-place g l = IsLastBelow (IsStoreTo l.vertex) l.marks l.place l.last
