-- Forests, as tables of rows.
use Rattle.std.specs.Prelude.{◌≡◌, ℕ, ◌+◌, ◌<◌, ◌≤◌, ◌==◌, if◌then◌else◌, true, List, [], ◌∷◌, ◌++◌, Option, None, Some}
use Rattle.sp_word.specs.Word.{Word, Unreached, Pair, is_layout, max_dist, max_pred}
use Rattle.sp_paths.specs.Paths.{IsVertex}
use Rattle.sp_answer.specs.Table.{IsPairWithin}

-- The row of a reached vertex: the vertex, its word and its root.
abbrev pub Row : Type 0
Row = ℕ × Word × ℕ

-- The number of vertices, and a row for each reached vertex.
pub record ForestTable : Type 0 where
  pub n : ℕ
  pub rows : List Row

-- The row of a vertex among some rows, if it has one.
abbrev pub row_in : List Row → ℕ → Option Row
row_in [] v = None
row_in (row ∷ more) v = if row.0 == v then Some row else row_in more v

-- The word in a row, or unreached if there is no row.
abbrev pub word_of : Option Row → Word
word_of None = Unreached
word_of (Some row) = row.1

-- The root in a row, if there is one.
abbrev pub root_in : Option Row → Option ℕ
root_in None = None
root_in (Some row) = Some row.2

-- The word of a vertex.
abbrev pub table_of : ForestTable → ℕ → Word
table_of f v = word_of (row_in f.rows v)

-- The root of a vertex that has a row.
abbrev pub root_of : ForestTable → ℕ → Option ℕ
root_of f v = root_in (row_in f.rows v)

-- Rows by rising vertex, above `last` and up to `n`. Each word is a pair with a distance up to `max` and a predecessor up to
-- `n`, and each root is a vertex.
abbrev pub AreRows : (max n last : ℕ) → List Row → Type 0
AreRows max n last [] = Unit {0}
AreRows max n last (row ∷ more) = (last < row.0) × (row.0 ≤ n) × IsPairWithin max n row.1 × IsVertex n row.2 × AreRows max n row.0 more

-- The forest with one more row.
abbrev pub with_row : ForestTable → (vertex dist pred root : ℕ) → ForestTable
with_row f vertex dist pred root = record { n = f.n; rows = f.rows ++ (vertex, Pair dist pred, root) ∷ [] }

-- The vertex of the last row, or `last` if there is none.
abbrev pub last_after : (last : ℕ) → List Row → ℕ
last_after last [] = last
last_after last (row ∷ more) = last_after row.0 more

-- The vertex of the last row, or 0 if there is none.
abbrev pub last_vertex : List Row → ℕ
last_vertex rows = last_after 0 rows

-- A table within the limits of words with P bits for the predecessor.
pub record IsForestTable (P : ℕ) (f : ForestTable) : Type 0 where
  pub layout : is_layout P ≡ true
  pub most : f.n ≤ max_pred P
  pub rows : AreRows (max_dist P) f.n 0 f.rows

-- The row of a vertex with this word and this root; an unreached vertex has none.
abbrev pub row_of : (vertex root : ℕ) → Word → List Row
row_of vertex root Unreached = []
row_of vertex root (Pair d p) = (vertex, Pair d p, root) ∷ []

-- The rows of the words of `vertex`, `vertex + 1` and so on, whose vertices have these roots.
abbrev pub rows_from : (root : ℕ → ℕ) → (vertex : ℕ) → List Word → List Row
rows_from root vertex [] = []
rows_from root vertex (word ∷ more) = row_of vertex (root vertex) word ++ rows_from root (vertex + 1) more
