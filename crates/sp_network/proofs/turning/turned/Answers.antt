use Rattle.sp_network.proofs.turning.turned.Goals as goal

pub from_arcs_by-requires-clause-arcs : goal.from_arcs_by-requires-clause-arcs
from_arcs_by-requires-clause-arcs g c κs within = rw c.n-n.ensures.n c.in_ok-arcs.ensures.arcs
