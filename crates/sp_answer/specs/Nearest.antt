-- The answer of a run from several sources.
use Rattle.std.specs.Prelude.{◌≡◌, ℕ, List, All, Any, Contains, Option, None, Some}
use Rattle.sp_word.specs.Word.{Pair, max_dist}
use Rattle.sp_word.specs.History.{Table}
use Rattle.sp_paths.specs.Paths.{Graph, IsVertex, IsLeast}
use Rattle.sp_paths.specs.Forests.{IsForest, IsFar, IsForestWithin}
use Rattle.sp_paths.specs.Roots.{IsRoot}
use Rattle.sp_answer.specs.declared.answer.RunError.{RunError}
use Rattle.sp_answer.specs.declared.answer.RunError.TheVariants.{Memory, TooFar, NoSuchVertex}
use Rattle.sp_answer.specs.ForestTable.{ForestTable, table_of, root_of}

-- Without a limit, the table is the forest of the sources, and no vertex is too far for a word with P bits of
-- predecessor. With a limit, the table is the part of the forest within the limit.
abbrev pub IsForestUpTo : (P : ℕ) → Graph → (sources : List ℕ) → (limit : Option ℕ) → Table → Type 0
IsForestUpTo P g sources None words = IsForest g sources words × IsFar g sources (max_dist P) None
IsForestUpTo P g sources (Some limit) words = IsForestWithin g sources limit words

-- The chain of predecessors of v begins at r, which is a source, and the least length of a walk from r to v is d.
pub record IsRootAt (g : Graph) (sources : List ℕ) (words : Table) (v d r : ℕ) : Type 0 where
  pub chain : IsRoot words v r
  pub source : Contains sources r
  pub dist : IsLeast g r v d

-- Each reached vertex has its root.
abbrev pub HasRoots : Graph → (sources : List ℕ) → ForestTable → Type 0
HasRoots g sources f = (v d p : ℕ) → IsVertex g.n v → table_of f v ≡ Pair d p → (r : ℕ) × (root_of f v ≡ Some r) × IsRootAt g sources (table_of f) v d r

-- The answer of a run: the sources are vertices, and the table and the roots are those of their forest, up to the limit if
-- there is one.
pub record IsForestAnswer (P : ℕ) (g : Graph) (sources : List ℕ) (limit : Option ℕ) (f : ForestTable) : Type 0 where
  pub vertices : All (IsVertex g.n) sources
  pub n : f.n ≡ g.n
  pub forest : IsForestUpTo P g sources limit (table_of f)
  pub roots : HasRoots g sources f

-- The error is NoSuchVertex exactly if some source is no vertex, and TooFar only if this vertex is too far and no limit
-- is given.
abbrev pub IsRefusal : (P : ℕ) → Graph → (sources : List ℕ) → (limit : Option ℕ) → RunError → Type 0
IsRefusal P g sources limit Memory = All (IsVertex g.n) sources
IsRefusal P g sources None (TooFar v) = All (IsVertex g.n) sources × IsFar g sources (max_dist P) (Some v)
IsRefusal P g sources (Some limit) (TooFar v) = ⊥
IsRefusal P g sources limit NoSuchVertex = Any (λ s. IsVertex g.n s → ⊥) sources
