use Rattle.sp_serial.specs.Lowers.{HasLowered}
use Rattle.sp_serial.proofs.batch.relax_each.Given as goal

abbrev pub invariant-loop-entry : goal.invariant-loop-entry
invariant-loop-entry g l = HasLowered g.row.P l.graph (g.T.Table.labels l.initial.table) (g.T.Table.labels l.table) (g.T.Table.IsKept l.table)
