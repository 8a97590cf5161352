use Rattle.std.proofs.Common.{◌≡◌, ◌≤◌, length}
use Rattle.std.specs.Prelude.{All, Contains}
use Rattle.sp_serial.proofs.batch.drop_relaxed.Given as goal

abbrev pub invariant-loop-place : goal.invariant-loop-place
invariant-loop-place g l = record {
  length : length l.arcs.items ≡ length l.initial.arcs.items;
  kept : l.kept ≤ l.place;
  arcs : All (Contains l.graph.arcs) l.arcs.items;
}
