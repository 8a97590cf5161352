use Rattle.std.proofs.Common.{◌≡◌, take}
use Rattle.std.specs.List.{AllZip}
use Rattle.sp_pairs.specs.Near.{IsClosedFor}
use Rattle.sp_pairs.proofs.towards.near_slots.Given as goal

abbrev pub invariant-loop-source : goal.invariant-loop-source
invariant-loop-source g l = (l.room ≡ l.graph) × AllZip (IsClosedFor g.A.TargetAnswer.is_answer l.graph) (take l.source-index l.pairs) l.slots.items
