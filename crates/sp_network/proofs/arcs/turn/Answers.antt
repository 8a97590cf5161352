use Rattle.sp_network.proofs.TurnedArcs.{one_more}
use Rattle.sp_network.proofs.arcs.turn.Goals as goal

pub loop-i-preserved : goal.loop-i-preserved
loop-i-preserved c = rw c.loop-i.invariant (one_more c.loop-i.i c.args.arcs.now c.turned_arc.result _ c.loop-i-test.true (rw c.loop-i.invariant at c.turned_arc.ensures))
