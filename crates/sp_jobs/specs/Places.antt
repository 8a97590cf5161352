-- Which sources are answered.
use Rattle.std.specs.Prelude.{ℕ, ◌≤◌, ◌-◌, List, take, drop, length, All, Option, Some, None}
use Rattle.sp_dimacs.specs.declared.formats.TheConstants.{MOST_SOURCES}

-- Of a list those at the places from a first to a last, both counted from 1, as far as there are any; or all.
abbrev pub part_of : Option (ℕ × ℕ) → List ℕ → List ℕ
part_of None sources = sources
part_of (Some places) sources = drop (places.0 - 1) (take places.1 sources)

-- There are no more sources than a list may have, and each is at least 1.
pub record AreNumbered (sources : List ℕ) : Type 0 where
  pub short : length sources ≤ MOST_SOURCES
  pub named : All (λ s. 1 ≤ s) sources
