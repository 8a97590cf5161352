use Rattle.std.proofs.Common.{◌≡◌, length}
use Rattle.std.specs.Prelude.{All}
use Rattle.sp_pairs.specs.Slots.{IsOpen}
use Rattle.sp_pairs.proofs.asking.open_single.Given as goal

abbrev pub invariant-loop : goal.invariant-loop
invariant-loop g l = (length l.slots.items ≡ l.counter) × All IsOpen l.slots.items
