use Rattle.sp_serial.specs.Lowers.{AreArcs, HasLowered}
use Rattle.sp_serial.proofs.batch.relax_live.Given as goal

abbrev pub invariant-loop-vertex : goal.invariant-loop-vertex
invariant-loop-vertex g l = record {
  words : HasLowered g.row.P l.graph (g.T.Table.labels l.initial.table) (g.T.Table.labels l.table) (g.T.Table.IsKept l.table);
  arcs : AreArcs l.graph l.arcs.items;
}
