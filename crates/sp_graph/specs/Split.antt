-- How the light and heavy arcs of the rows are laid out.
use Rattle.std.specs.Prelude.{◌≡◌, ℕ, zero, suc, ◌+◌, ◌<◌, ◌≤◌, List, [], ◌++◌, slice_index_or, length}
use Rattle.sp_paths.specs.declared.arc.Arc.{Arc}
use Rattle.sp_paths.specs.Rows.{light_of, heavy_of}
use Rattle.sp_graph.specs.declared.rows.Cut.{Cut}

-- The rows of the first vertices follow one another, each with its light arcs before its heavy arcs.
unfoldable pub laid_out : List Arc → (delta count : ℕ) → List Arc
laid_out arcs delta zero = []
laid_out arcs delta (suc v) = laid_out arcs delta v ++ (light_of arcs delta (v + 1) ++ heavy_of arcs delta (v + 1))

-- This is where the light arcs of the vertex after v begin.
abbrev pub light_place : List Arc → (delta v : ℕ) → ℕ
light_place arcs delta v = length (laid_out arcs delta v)

-- This is where the heavy arcs of the vertex after v begin.
abbrev pub heavy_place : List Arc → (delta v : ℕ) → ℕ
heavy_place arcs delta v = length (laid_out arcs delta v ++ light_of arcs delta (v + 1))

-- The list holds the first cuts, one for each vertex.
pub record CutsRows (arcs : List Arc) (delta count : ℕ) (cuts : List Cut) : Type 0 where
  pub size : length cuts ≡ count
  pub light : (v : ℕ) (d : Cut) → v < count → (slice_index_or cuts v d).light ≡ light_place arcs delta v
  pub heavy : (v : ℕ) (d : Cut) → v < count → (slice_index_or cuts v d).heavy ≡ heavy_place arcs delta v

-- All rows are laid out, with a cut for each row and one more for the end of the last row.
pub record IsSplit (n : ℕ) (arcs : List Arc) (delta : ℕ) (kept : List Arc) (cuts : List Cut) : Type 0 where
  pub laid : kept ≡ laid_out arcs delta n
  pub size : length cuts ≡ n + 1
  pub light : (v : ℕ) (d : Cut) → v ≤ n → (slice_index_or cuts v d).light ≡ light_place arcs delta v
  pub heavy : (v : ℕ) (d : Cut) → v < n → (slice_index_or cuts v d).heavy ≡ heavy_place arcs delta v
