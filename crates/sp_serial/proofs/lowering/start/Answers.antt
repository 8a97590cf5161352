use Rattle.sp_word.specs.Word.{max_dist}
use Rattle.sp_serial.proofs.Started.{opened_table}
use Rattle.sp_serial.proofs.lowering.start.Goals as goal

pub returns-clause-table : goal.returns-clause-table
returns-clause-table g c =
    opened_table c.args.graph.now c.args.sources.now (max_dist g.row.P) c.loop-source.source-index (g.T.Table.labels c.loop-source.table) c.loop-source-test.false c.loop-source.invariant.opened
