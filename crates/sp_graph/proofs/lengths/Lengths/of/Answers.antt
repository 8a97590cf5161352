use Rattle.sp_graph.proofs.Scatter.{hole}
use Rattle.sp_graph.proofs.LengthSums.{lengths_more}
use Rattle.sp_graph.proofs.lengths.Lengths.of.Goals as goal

pub loop-arc-preserved : goal.loop-arc-preserved
loop-arc-preserved c = rw c.with-lengths.ensures (lengths_more c.args.arcs.now c.loop-arc.arc-index hole c.loop-arc.lengths c.loop-arc-test.true c.loop-arc.invariant)
