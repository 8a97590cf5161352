-- The answer of a run from a source.
use Rattle.std.specs.Prelude.{◌≡◌, ℕ, Some, None}
use Rattle.sp_word.specs.Word.{max_dist}
use Rattle.sp_paths.specs.Paths.{Graph, IsVertex, IsTree, IsFar}
use Rattle.sp_answer.specs.Table.{TreeTable, table_of}
use Rattle.sp_answer.specs.declared.answer.RunError.{RunError}
use Rattle.sp_answer.specs.declared.answer.RunError.TheVariants.{Memory, TooFar, NoSuchVertex}

-- The tree of the graph from the source. No vertex is too far for a word with P bits of predecessor.
pub record IsAnswer (P : ℕ) (g : Graph) (s : ℕ) (t : TreeTable) : Type 0 where
  pub vertex : IsVertex g.n s
  pub n : t.n ≡ g.n
  pub source : t.source ≡ s
  pub tree : IsTree g s (table_of t)
  pub far : IsFar g s (max_dist P) None

-- The error is NoSuchVertex exactly if the source is no vertex, and TooFar only if this vertex is too far.
abbrev pub IsRefusal : (P : ℕ) → Graph → (s : ℕ) → RunError → Type 0
IsRefusal P g s Memory = IsVertex g.n s
IsRefusal P g s (TooFar v) = IsVertex g.n s × IsFar g s (max_dist P) (Some v)
IsRefusal P g s NoSuchVertex = IsVertex g.n s → ⊥
