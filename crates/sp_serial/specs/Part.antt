-- The part of a tree within a limit, of words that a search has touched.
use Rattle.std.specs.Prelude.{◌≡◌, ℕ, ◌⊎◌, List, length, slice_index_or}
use Rattle.sp_word.specs.Word.{Word, Unreached}
use Rattle.sp_paths.specs.Paths.{Graph, IsVertex, word_at}
use Rattle.sp_answer.specs.Table.{TreeTable, table_of}
use Rattle.sp_answer.specs.Within.{up_to}
use Rattle.sp_paths.specs.Forests.{IsForestWithin}

-- The vertex has this word in the tree, or no row.
abbrev pub HasNoOther : TreeTable → (v : ℕ) → Word → Type 0
HasNoOther t v word = (table_of t v ≡ Unreached) ⊎ (table_of t v ≡ word)

-- The vertex has this word in the tree afterwards, and every other vertex keeps its word.
pub record HasGained (before : TreeTable) (v : ℕ) (word : Word) (after : TreeTable) : Type 0 where
  pub n : after.n ≡ before.n
  pub source : after.source ≡ before.source
  pub here : table_of after v ≡ word
  pub others : (u : ℕ) → (u ≡ v → ⊥) → table_of after u ≡ table_of before u

-- The tree has the words up to the limit.
pub record IsPartOf (s limit : ℕ) (words : List Word) (t : TreeTable) : Type 0 where
  pub n : t.n ≡ length words
  pub source : t.source ≡ s
  pub each : (v : ℕ) → IsVertex (length words) v → table_of t v ≡ up_to limit (word_at words v)

-- The rows are those of the part of the forest within the limit. The first source represents all sources.
pub record HasPart (g : Graph) (sources : List ℕ) (limit : ℕ) (t : TreeTable) : Type 0 where
  pub n : t.n ≡ g.n
  pub source : t.source ≡ slice_index_or sources 0 0
  pub part : IsForestWithin g sources limit (table_of t)
