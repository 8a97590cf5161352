-- The text of a forest.
use Rattle.std.specs.Prelude.{ℕ, ◌≤◌, ◌==◌, Bool, false, List, [], ◌++◌, length, codes}
use Rattle.std.specs.List.{flat_map, count_by}
use Rattle.sp_word.specs.Word.{Word, Unreached, Pair}
use Rattle.sp_text.specs.Numeral.{number_text}
use Rattle.sp_files.specs.TreeText.{end_text}
use Rattle.sp_answer.specs.ForestTable.{Row, ForestTable, IsForestTable}

-- This is the line `p near N K`.
abbrev pub problem_text : (n count : ℕ) → List ℕ
problem_text n count = codes "p near" ++ number_text n ++ number_text count ++ codes "\n"

-- This is the line `v V D P S`, for a vertex that is reached.
abbrev pub reached_text : (vertex : ℕ) → Word → (root : ℕ) → List ℕ
reached_text vertex Unreached root = []
reached_text vertex (Pair d p) root = codes "v" ++ number_text vertex ++ number_text d ++ number_text p ++ number_text root ++ codes "\n"

-- This is the line of a row.
abbrev pub row_text : Row → List ℕ
row_text row = reached_text row.0 row.1 row.2

-- The word has no predecessor: it is that of a source.
abbrev pub is_first : Word → Bool
is_first Unreached = false
is_first (Pair d p) = p == 0

-- The row is that of a source.
abbrev pub is_source : Row → Bool
is_source row = is_first row.1

-- This is the number of sources. Each has one row, so a source that is named twice counts once.
abbrev pub source_count : List Row → ℕ
source_count rows = count_by is_source rows

-- The block of a forest: its problem line, its rows, and `e R` with the number of its rows.
unfoldable pub forest_text : ForestTable → List ℕ
forest_text f = problem_text f.n (source_count f.rows) ++ flat_map row_text f.rows ++ end_text (length f.rows)

-- This is the text of a forest whose first line gives this number of sources. If it is the number of rows without a predecessor,
-- this is the forest's own text.
unfoldable pub file_text : (sources : ℕ) → ForestTable → List ℕ
file_text sources f = problem_text f.n sources ++ flat_map row_text f.rows ++ end_text (length f.rows)

-- What a forest's file may hold.
pub record IsFile (P sources : ℕ) (f : ForestTable) : Type 0 where
  pub table : IsForestTable P f
  pub least : 1 ≤ f.n
  pub sources_most : sources ≤ f.n

-- This is the line `x V`, for a vertex that is too far from all sources.
unfoldable pub no_forest_text : (vertex : ℕ) → List ℕ
no_forest_text vertex = codes "x" ++ number_text vertex ++ codes "\n"
