use Rattle.sp_network.proofs.ways.both_ways_alone.Goals as goal

pub from_arcs-requires-clause-arcs : goal.from_arcs-requires-clause-arcs
from_arcs-requires-clause-arcs c = rw c.n-n.ensures.n c.in_ok-arcs.ensures.arcs
