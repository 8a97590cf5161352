use Rattle.sp_network.proofs.turning.turned_alone.Goals as goal

pub from_arcs-requires-clause-arcs : goal.from_arcs-requires-clause-arcs
from_arcs-requires-clause-arcs c = rw c.n-n.ensures.n c.in_ok-arcs.ensures.arcs
