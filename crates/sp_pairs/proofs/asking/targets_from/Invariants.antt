use Rattle.std.proofs.Common.{◌<◌, ◌-◌, length}
use Rattle.sp_pairs.specs.Slots.{AreTargetsOf, pair_at}
use Rattle.sp_pairs.proofs.asking.targets_from.Given as goal

abbrev pub invariant-loop-next : goal.invariant-loop-next
invariant-loop-next g l = (l.at < length l.pairs) × AreTargetsOf l.graph.n (pair_at l.pairs l.place) l.targets.items

abbrev pub decreases-loop-next : goal.decreases-loop-next
decreases-loop-next g l = length l.pairs - l.at
