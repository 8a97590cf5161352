-- What contracts see of a graph, and what the graph keeps.
use Rattle.std.specs.Prelude.{◌^◌, ◌<◌, ◌≤◌, length, IfSome}
use Rattle.sp_paths.specs.Paths.{Graph, IsGraph}
use Rattle.sp_graph.specs.Order.{IsInOrder}
use Rattle.sp_graph.specs.Lengths.{AreLengths}
use Rattle.sp_graph.specs.Index.{IsIndex}
use Rattle.sp_graph.specs.Placed.{KeepsRows}
use Rattle.sp_graph.specs.declared.graph.Graph.TheInside.{Inside}

-- What contracts see of a graph: its number of vertices, and its arcs.
abbrev pub graph_of : Inside → Graph
graph_of g = record { n = g.n; arcs = g.arcs.items }

-- The graph has fewer than 2^32 arcs, in order; it knows where each row ends, and the lengths. Its places, if it has some, hold
-- its rows.
pub record IsStored (g : Inside) : Type 0 where
  pub some : 1 ≤ g.n
  pub few : length g.arcs.items < 2 ^ 32
  pub graph : IsGraph (graph_of g)
  pub order : IsInOrder g.arcs.items
  pub index : IsIndex g.n g.arcs.items g.ends.items
  pub lengths : AreLengths g.arcs.items g.lengths
  pub places : IfSome g.places (λ places. KeepsRows g.n g.arcs.items places.items)
