use Rattle.sp_serial.proofs.Started.{AreOpened}
use Rattle.sp_serial.proofs.lowering.start.Given as goal

abbrev pub invariant-loop-source : goal.invariant-loop-source
invariant-loop-source g l = record {
  opened : AreOpened l.graph.n l.sources l.source-index (g.T.Table.labels l.table);
  kept : g.T.Table.IsKept l.table;
}
