-- The graph of an owner, and of an owner that is out of its place.
use Rattle.sp_paths.specs.Paths.{Graph}
use Rattle.std.specs.Arc.{arc_value}
use Rattle.spt_c.specs.declared.shared.graph.SharedGraph.{SharedGraph}
use Rattle.spt_c.specs.declared.shared.graph.HeldGraph.{HeldGraph}

-- The graph of an owner.
abbrev pub owned : SharedGraph → Graph
owned shared = arc_value shared.graph

-- The graph that was taken out of its place.
abbrev pub held : HeldGraph → Graph
held out = owned out.shared.value
