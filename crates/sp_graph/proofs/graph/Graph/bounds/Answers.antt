use Rattle.sp_graph.specs.GraphView.{graph_of}
use Rattle.sp_graph.proofs.Starts.{row_at}
use Rattle.sp_graph.proofs.graph.Graph.bounds.Goals as goal

pub returns : goal.returns
returns c = rw (← c.self.view_is) (row_at (graph_of c.self.inside) c.self.inside.ends.items c.args.v c.index.result.now c.index-2.result.now c.self.invariant.order c.self.invariant.index (rw (← c.self.view_is) at c.requires) c.index.ensures c.index-2.ensures)
