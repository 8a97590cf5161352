use Rattle.sp_network.proofs.TurnedArcs.{first_with_turned}
use Rattle.sp_network.proofs.ways.both_arcs.Goals as goal

pub returns-clause-arcs : goal.returns-clause-arcs
returns-clause-arcs c =
    let h = c.args.graph.now in
    first_with_turned h.n c.loop-arc.arc-index h.arcs c.loop-arc.arcs.items c.arcs-arc-items.ensures.graph (rw (← c.arcs-arc-items.ensures.arcs) c.loop-arc.invariant)
