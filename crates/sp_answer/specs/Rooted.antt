-- Words, and a number for each vertex: its root.
use Rattle.std.specs.Prelude.{◌≡◌, ℕ, ◌-◌, ◌<◌, ◌≤◌, List, Some, length, slice_index_or}
use Rattle.sp_word.specs.Word.{Word, Pair}
use Rattle.sp_word.specs.History.{Table}
use Rattle.sp_paths.specs.Paths.{IsVertex, word_at}
use Rattle.sp_paths.specs.Roots.{IsRoot, IsRootOrNone}
use Rattle.sp_answer.specs.ForestTable.{ForestTable, table_of, root_of}

-- Vertex v has the number at index v - 1.
abbrev pub root_at : List ℕ → (v : ℕ) → ℕ
root_at roots v = slice_index_or roots (v - 1) 0

-- Each reached vertex has its root, and every other vertex has 0.
pub record AreRoots (words : List Word) (roots : List ℕ) : Type 0 where
  pub size : length roots ≡ length words
  pub each : (v : ℕ) → IsVertex (length words) v → IsRootOrNone (word_at words) v (root_at roots v) (word_at words v)

-- Some walk has reached the vertex.
abbrev pub IsReached : Table → (v : ℕ) → Type 0
IsReached words v = (d p : ℕ) × (words v ≡ Pair d p)

-- Each number but 0 is its vertex's root.
abbrev pub AreKnown : List Word → List ℕ → Type 0
AreKnown words roots = (v : ℕ) → IsVertex (length words) v → 0 < root_at roots v → IsRoot (word_at words) v (root_at roots v)

-- A vertex whose root was known has a root that is known.
abbrev pub StayKnown : (n : ℕ) → (before after : List ℕ) → Type 0
StayKnown n before after = (v : ℕ) → IsVertex n v → 0 < root_at before v → 0 < root_at after v

-- Each of the first vertices that is reached has a number.
abbrev pub AreFound : List Word → List ℕ → (count : ℕ) → Type 0
AreFound words roots count = (v : ℕ) → 1 ≤ v → v ≤ count → IsReached (word_at words) v → 0 < root_at roots v

-- The forest holds the words.
abbrev pub HoldsWords : List Word → ForestTable → Type 0
HoldsWords words f = (v : ℕ) → IsVertex (length words) v → table_of f v ≡ word_at words v

-- Each vertex that the words reach has its root in the forest.
abbrev pub HoldsRoots : List Word → ForestTable → Type 0
HoldsRoots words f = (v d p : ℕ) → IsVertex (length words) v → word_at words v ≡ Pair d p → (r : ℕ) × (root_of f v ≡ Some r) × IsRoot (word_at words) v r
