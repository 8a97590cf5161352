-- Rows of a part within a limit, and their roots.
use Rattle.std.specs.Prelude.{◌≡◌, ℕ, ◌<◌, List, [], ◌∷◌, ◌++◌, Some, length, slice_index_or}
use Rattle.sp_word.specs.Word.{Word, Pair}
use Rattle.sp_answer.specs.Table.{TreeTable, table_of}
use Rattle.sp_paths.specs.Roots.{IsRoot}
use Rattle.sp_answer.specs.ForestTable.{ForestTable, root_of}
use Rattle.sp_answer.specs.ForestTable.{table_of as word_in_forest}

-- The row at this place is that of v.
abbrev pub IsRowAt : List (ℕ × Word) → (v place : ℕ) → Type 0
IsRowAt rows v place = (place < length rows) × ((none : ℕ × Word) → (slice_index_or rows place none).0 ≡ v)

-- A number for each row: the root of its vertex, or 0.
pub record AreKnownRoots (t : TreeTable) (roots : List ℕ) : Type 0 where
  pub size : length roots ≡ length t.rows
  pub known : (k : ℕ) (none : ℕ × Word) → k < length t.rows → 0 < slice_index_or roots k 0 → IsRoot (table_of t) (slice_index_or t.rows k none).0 (slice_index_or roots k 0)

-- The forest has one more row afterwards.
pub record HasRow (before : ForestTable) (v : ℕ) (word : Word) (root : ℕ) (after : ForestTable) : Type 0 where
  pub n : after.n ≡ before.n
  pub rows : after.rows ≡ before.rows ++ (v, word, root) ∷ []

-- The forest has the words of the tree's table, and the root of each vertex that has a row.
pub record IsForestOf (t : TreeTable) (f : ForestTable) : Type 0 where
  pub n : f.n ≡ t.n
  pub words : (v : ℕ) → word_in_forest f v ≡ table_of t v
  pub roots : (v d p : ℕ) → table_of t v ≡ Pair d p → (r : ℕ) × (root_of f v ≡ Some r) × IsRoot (table_of t) v r
