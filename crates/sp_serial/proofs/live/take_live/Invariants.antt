use Rattle.std.proofs.Common.{◌≤◌, take}
use Rattle.std.specs.Prelude.{All}
use Rattle.sp_serial.specs.Live.{IsTail}
use Rattle.sp_serial.proofs.live.take_live.Given as goal

abbrev pub invariant-loop-entry : goal.invariant-loop-entry
invariant-loop-entry g l = record {
  count : l.live ≤ l.entry-index;
  tails : All (IsTail l.graph) (take l.live l.vertices);
}
