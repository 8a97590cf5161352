-- What contracts see of the rows of a graph, and what the rows keep.
use Rattle.std.specs.Prelude.{◌≤◌}
use Rattle.sp_paths.specs.Paths.{IsGraph}
use Rattle.sp_graph.specs.Order.{in_order}
use Rattle.sp_graph.specs.Split.{IsSplit}
use Rattle.sp_graph.specs.RowsValue.{Split}
use Rattle.sp_graph.specs.declared.rows.Rows.TheInside.{Inside}

-- The arcs are kept with light ones before heavy ones, so the graph's list is the kept list, sorted.
abbrev pub split_of : Inside → Split
split_of r = record { graph = record { n = r.n; arcs = in_order r.arcs.items }; delta = r.delta }

-- The kept arcs are those of a graph with at least one vertex, and its rows are split at the kept cuts.
pub record IsKept (r : Inside) : Type 0 where
  pub some : 1 ≤ r.n
  pub graph : IsGraph (split_of r).graph
  pub split : IsSplit r.n (in_order r.arcs.items) r.delta r.arcs.items r.cuts.items
