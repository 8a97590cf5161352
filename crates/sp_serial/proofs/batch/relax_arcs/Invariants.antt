use Rattle.sp_serial.specs.Lowers.{HasLowered}
use Rattle.sp_serial.proofs.batch.relax_arcs.Given as goal

abbrev pub invariant-loop-arc : goal.invariant-loop-arc
invariant-loop-arc g l = HasLowered g.row.P l.graph (g.T.Table.labels l.initial.table) (g.T.Table.labels l.table) (g.T.Table.IsKept l.table)
