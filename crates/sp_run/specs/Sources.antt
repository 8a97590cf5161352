-- Several sources in a graph.
use Rattle.std.specs.Prelude.{ℕ, List}
use Rattle.sp_paths.specs.Paths.{Graph}

-- What contracts see of the law of walks: the graph and the sources.
pub record WalkSources : Type 0 where
  pub graph : Graph
  pub sources : List ℕ
