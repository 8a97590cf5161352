use Rattle.sp_serial.specs.Lowers.{AreArcs, HasLowered}
use Rattle.sp_serial.proofs.batch.put_each.Given as goal

abbrev pub invariant-loop-arc : goal.invariant-loop-arc
invariant-loop-arc g l = record {
  words : HasLowered g.row.P l.graph (g.T.Table.labels l.initial.table) (g.T.Table.labels l.table) (g.T.Table.IsKept l.table);
  arcs : AreArcs l.graph l.arcs.items;
}
