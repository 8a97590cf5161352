use Rattle.sp_serial.specs.Lowers.{HasLowered}
use Rattle.sp_serial.proofs.search.search.Given as goal

abbrev pub invariant-loop : goal.invariant-loop
invariant-loop g l = HasLowered g.row.P l.graph (g.T.Table.labels l.initial.table) (g.T.Table.labels l.table) (g.T.Table.IsKept l.table)
