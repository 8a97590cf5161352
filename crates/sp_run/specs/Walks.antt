-- The law of walks from a source.
use Rattle.std.specs.Prelude.{ℕ}
use Rattle.sp_paths.specs.Paths.{Graph}

-- This is what contracts see of the law: the graph and the source.
pub record WalksFrom : Type 0 where
  pub graph : Graph
  pub source : ℕ
