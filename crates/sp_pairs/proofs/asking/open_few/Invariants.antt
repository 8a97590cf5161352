use Rattle.std.proofs.Common.{◌≡◌, length}
use Rattle.std.specs.Prelude.{All}
use Rattle.sp_pairs.specs.Slots.{IsOpen}
use Rattle.sp_pairs.proofs.asking.open_few.Given as goal

abbrev pub invariant-loop-place : goal.invariant-loop-place
invariant-loop-place g l = (length l.slots.items ≡ l.place) × All IsOpen l.slots.items
