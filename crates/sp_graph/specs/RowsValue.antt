-- What contracts see of rows.
use Rattle.std.specs.Prelude.{ℕ, List, ◌++◌, filter, nat_le, nat_lt}
use Rattle.sp_paths.specs.declared.arc.Arc.{Arc}
use Rattle.sp_paths.specs.Paths.{Graph}

-- The rows of a graph, each split into its light arcs, of length at most delta, and its heavy arcs.
pub record Split : Type 0 where
  pub graph : Graph
  pub delta : ℕ

-- These are the light arcs of a list, its heavy arcs, and the light arcs followed by the heavy ones, each in the list's
-- order.
abbrev pub light_among : (delta : ℕ) → List Arc → List Arc
light_among delta arcs = filter (λ a. nat_le a.len delta) arcs

abbrev pub heavy_among : (delta : ℕ) → List Arc → List Arc
heavy_among delta arcs = filter (λ a. nat_lt delta a.len) arcs

abbrev pub light_then_heavy : (delta : ℕ) → List Arc → List Arc
light_then_heavy delta arcs = light_among delta arcs ++ heavy_among delta arcs
