-- Trees of shortest paths, as tables of rows.
use Rattle.std.specs.Prelude.{◌≡◌, ℕ, ◌+◌, ◌<◌, ◌≤◌, ◌==◌, if◌then◌else◌, true, List, [], ◌∷◌, ◌++◌, length}
use Rattle.sp_word.specs.Word.{Word, Unreached, Pair, is_layout, max_dist, max_pred}

-- The number of vertices, the source, and a row for each reached vertex: the vertex and its word.
pub record TreeTable : Type 0 where
  pub n : ℕ
  pub source : ℕ
  pub rows : List (ℕ × Word)

-- The tree with one more row.
abbrev pub with_row : TreeTable → (vertex dist pred : ℕ) → TreeTable
with_row t vertex dist pred = record { n = t.n; source = t.source; rows = t.rows ++ (vertex, Pair dist pred) ∷ [] }

-- The word of a vertex among some rows: unreached if it has no row.
abbrev pub word_in : List (ℕ × Word) → ℕ → Word
word_in [] v = Unreached
word_in (row ∷ more) v = if row.0 == v then row.1 else word_in more v

-- The word of a vertex in the tree.
abbrev pub table_of : TreeTable → ℕ → Word
table_of t v = word_in t.rows v

-- A pair with a distance up to `max` and a predecessor up to `n`.
abbrev pub IsPairWithin : (max n : ℕ) → Word → Type 0
IsPairWithin max n Unreached = ⊥
IsPairWithin max n (Pair d p) = (d ≤ max) × (p ≤ n)

-- Rows by rising vertex, above `last` and up to `n`, each with such a pair.
abbrev pub AreRows : (max n last : ℕ) → List (ℕ × Word) → Type 0
AreRows max n last [] = Unit {0}
AreRows max n last (row ∷ more) = (last < row.0) × (row.0 ≤ n) × IsPairWithin max n row.1 × AreRows max n row.0 more

-- The vertex of the last row, or `last` if there is none.
abbrev pub last_after : (last : ℕ) → List (ℕ × Word) → ℕ
last_after last [] = last
last_after last (row ∷ more) = last_after row.0 more

-- The vertex of the last row, or 0 if there is none.
abbrev pub last_vertex : List (ℕ × Word) → ℕ
last_vertex rows = last_after 0 rows

-- A table within the limits of words with P bits for the predecessor.
pub record IsTable (P : ℕ) (t : TreeTable) : Type 0 where
  pub layout : is_layout P ≡ true
  pub least : 1 ≤ t.n
  pub most : t.n ≤ max_pred P
  pub source_least : 1 ≤ t.source
  pub source_most : t.source ≤ t.n
  pub rows : AreRows (max_dist P) t.n 0 t.rows

-- The row of a vertex with this word; an unreached vertex has none.
abbrev pub row_of : (vertex : ℕ) → Word → List (ℕ × Word)
row_of vertex Unreached = []
row_of vertex (Pair d p) = (vertex, Pair d p) ∷ []

-- The rows of the words of `vertex`, `vertex + 1` and so on.
abbrev pub rows_from : (vertex : ℕ) → List Word → List (ℕ × Word)
rows_from vertex [] = []
rows_from vertex (word ∷ more) = row_of vertex word ++ rows_from (vertex + 1) more

-- The tree of a source in which the words are those of vertex 1, 2 and so on.
abbrev pub tree_of : (source : ℕ) → List Word → TreeTable
tree_of source words = record { n = length words; source = source; rows = rows_from 1 words }

-- The predecessor of a pair is at most `n`.
abbrev pub HasPredWithin : (n : ℕ) → Word → Type 0
HasPredWithin n Unreached = Unit {0}
HasPredWithin n (Pair d p) = p ≤ n

-- The words make a table within the limits of words with P bits for the predecessor, and `reached` vertices of it are
-- reached.
pub record IsCounted (P : ℕ) (source : ℕ) (words : List Word) (reached : ℕ) : Type 0 where
  pub table : IsTable P (tree_of source words)
  pub count : reached ≡ length (rows_from 1 words)
