use Rattle.sp_word.specs.Word.{max_dist}
use Rattle.sp_judge.proofs.LoweredWalks.{lowered_any}
use Rattle.sp_serial.proofs.lowering.lower_from.Goals as goal

pub returns-clause-table : goal.returns-clause-table
returns-clause-table g c =
    lowered_any c.args.graph.now c.n.ensures.graph (max_dist g.row.P) c.args.run.sources.now c.requires.sources (g.T.Table.labels c.start.new.table) (g.T.Table.labels c.search.new.table) c.search.ensures.lowered (c.in_ok-start.ensures {u = tt}).table
