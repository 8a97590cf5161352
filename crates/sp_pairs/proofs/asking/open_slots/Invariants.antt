use Rattle.std.proofs.Common.{◌≡◌, length}
use Rattle.sp_pairs.specs.Slots.{AreAllOpen}
use Rattle.sp_pairs.proofs.asking.open_slots.Given as goal

abbrev pub invariant-loop-done : goal.invariant-loop-done
invariant-loop-done g l = AreAllOpen l.pairs l.slots.items × (length l.next_of_source.items ≡ l.n)
