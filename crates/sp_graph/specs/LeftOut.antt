-- The vertices that a table of words leaves out.
use Rattle.std.specs.Prelude.{◌≡◌, ◌≢◌, ℕ, min, ◌≤◌, List, Option, Some, None}
use Rattle.sp_word.specs.Word.{Word, Unreached}
use Rattle.sp_word.specs.History.{Table}
use Rattle.sp_paths.specs.declared.arc.Arc.{Arc}
use Rattle.sp_paths.specs.Paths.{Graph, IsLeftOut}

-- The graph of n vertices with these arcs.
abbrev pub network : ℕ → List Arc → Graph
network n arcs = record { n = n; arcs = arcs }

-- This is the smallest vertex that is left out, or none.
abbrev pub IsLeastLeftOut : Graph → Table → Option ℕ → Type 0
IsLeastLeftOut g words None = (v : ℕ) → IsLeftOut g words v → ⊥
IsLeastLeftOut g words (Some v) = IsLeftOut g words v × ((w : ℕ) → IsLeftOut g words w → v ≤ w)

-- The smaller of two vertices, the first of which may be missing.
abbrev pub smaller_of : Option ℕ → ℕ → ℕ
smaller_of None second = second
smaller_of (Some first) second = min first second

-- The first word is a pair, and the second is unreached.
abbrev pub LeadsOut : Word → Word → Type 0
LeadsOut from found = (from ≢ Unreached) × (found ≡ Unreached)
