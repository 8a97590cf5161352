-- What a run finds within a distance of its source.
use Rattle.std.specs.Prelude.{◌≡◌, ℕ, nat_le, if◌then◌else◌}
use Rattle.sp_word.specs.Word.{Word, Unreached, Pair}
use Rattle.sp_paths.specs.Paths.{Graph, IsVertex, EndsInTree}
use Rattle.sp_answer.specs.Table.{TreeTable, table_of}
use Rattle.sp_answer.specs.declared.answer.RunError.{RunError}
use Rattle.sp_answer.specs.declared.answer.RunError.TheVariants.{Memory, TooFar, NoSuchVertex}

-- The part of the tree within a distance of its source: each vertex whose least length is at most the limit has its word
-- in the tree, and every other vertex is unreached.
pub record IsTreeWithin (g : Graph) (s limit : ℕ) (t : TreeTable) : Type 0 where
  pub vertex : IsVertex g.n s
  pub n : t.n ≡ g.n
  pub source : t.source ≡ s
  pub tree : EndsInTree g s limit (table_of t)

-- The error is NoSuchVertex exactly if the source is no vertex; it is never TooFar.
abbrev pub IsRefusalWithin : Graph → (s : ℕ) → RunError → Type 0
IsRefusalWithin g s Memory = IsVertex g.n s
IsRefusalWithin g s (TooFar v) = ⊥
IsRefusalWithin g s NoSuchVertex = IsVertex g.n s → ⊥

-- The word if its distance is at most the limit, and otherwise unreached.
abbrev pub up_to : (limit : ℕ) → Word → Word
up_to limit Unreached = Unreached
up_to limit (Pair d p) = if nat_le d limit then Pair d p else Unreached
