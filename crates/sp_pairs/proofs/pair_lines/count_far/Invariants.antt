use Rattle.std.proofs.Common.{◌≡◌, ◌≤◌, take}
use Rattle.std.specs.List.{count_by}
use Rattle.sp_pairs.specs.Slots.{is_far_slot}
use Rattle.sp_pairs.proofs.pair_lines.count_far.Given as goal

abbrev pub invariant-loop-slot : goal.invariant-loop-slot
invariant-loop-slot g l = (l.count ≡ count_by (is_far_slot g.A.PairLine.kind g.A.PairLine.told) (take l.slot-index l.slots)) × (l.count ≤ l.slot-index)
