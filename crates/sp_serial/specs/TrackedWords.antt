-- The words of all vertices, few of them touched by a search.
use Rattle.std.specs.Prelude.{◌≡◌, ℕ, ◌<◌, ◌≤◌, List, length, replicate, slice_index, All, true}
use Rattle.sp_word.specs.Word.{Word, Unreached, Pair, is_layout, max_pred}
use Rattle.sp_paths.specs.Paths.{Graph, IsVertex, word_at}

-- The list has the vertex, at the index `from` or behind it.
abbrev pub IsAmong : (from : ℕ) → (list : List ℕ) → (v : ℕ) → Type 0
IsAmong from list v = (k : ℕ) × (from ≤ k) × (k < length list) × (slice_index list k ≡ v)

-- A list has only vertices, and it has each vertex with a word at the index `from` or behind it.
pub record AreTouched (from : ℕ) (reached : List ℕ) (words : List Word) : Type 0 where
  pub vertices : All (IsVertex (length words)) reached
  pub covers : (v d p : ℕ) → IsVertex (length words) v → word_at words v ≡ Pair d p → IsAmong from reached v

-- All vertices are unreached, and words of this layout have room for each of them.
pub record IsClear (P : ℕ) (g : Graph) (words : List Word) : Type 0 where
  pub layout : is_layout P ≡ true
  pub room : g.n ≤ max_pred P
  pub unreached : words ≡ replicate g.n Unreached

-- All of the words are unreached, in this layout.
pub record AreSpare (P : ℕ) (words : List Word) : Type 0 where
  pub layout : is_layout P ≡ true
  pub unreached : words ≡ replicate (length words) Unreached
