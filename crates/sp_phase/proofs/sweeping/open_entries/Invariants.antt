use Rattle.std.proofs.Common.{◌≡◌, []}
use Rattle.std.specs.Prelude.{All}
use Rattle.sp_phase.specs.Sweep.{AreRelaxed, IsOpen}
use Rattle.sp_phase.proofs.sweeping.open_entries.Given as goal

abbrev pub invariant-loop-place : goal.invariant-loop-place
invariant-loop-place g l = (l.open.items ≡ [] → AreRelaxed l.words l.marks l.bounds l.place) × All (IsOpen l.words l.marks l.bounds) l.open.items
