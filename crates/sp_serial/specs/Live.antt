-- Vertices whose arcs are to be relaxed.
use Rattle.std.specs.Prelude.{ℕ, ◌<◌, length}
use Rattle.sp_paths.specs.Paths.{Graph, IsVertex}
use Rattle.sp_paths.specs.Rows.{row_of}

-- A vertex that arcs leave.
abbrev pub IsTail : Graph → ℕ → Type 0
IsTail g v = IsVertex g.n v × (0 < length (row_of g.arcs v))
