-- The theorems about the definitions of forests. Each statement is the contract of a function of this crate.
use Rattle.std.specs.Prelude.{◌≡◌, ℕ, ◌≤◌, ◌⊎◌, ◌↔◌, List, [], ◌∷◌, All, Contains, Option, Some, None}
use Rattle.sp_word.specs.Word.{Word, Pair}
use Rattle.sp_word.specs.History.{Table}
use Rattle.sp_paths.specs.Paths.{Graph, IsGraph, IsVertex, IsLeast, IsLeftOut, IsTree, IsTreeWord, EndsInTree, IsFar as IsFarFromOne}
use Rattle.sp_paths.specs.Forests.{IsNearest, IsForestWord, IsForest, IsNear, IsForestWithin, IsFar, IsClosedTable, IsFinished}
use Rattle.sp_paths.specs.Roots.{IsRoot, FallsBack}

-- ## Tables

-- What a table shows if every arc is relaxed up to a limit.
pub record ShowsWithin (g : Graph) (sources : List ℕ) (limit : ℕ) (words : Table) : Type 0 where
  pub near : (v : ℕ) → IsNear g sources limit v → IsForestWord g sources v (words v)
  pub dist : (v d p : ℕ) → IsVertex g.n v → words v ≡ Pair d p → d ≤ limit → IsNearest g sources v d

-- The table of a run shows this if every arc is relaxed up to the limit.
abbrev pub ClosedShowsWithin : Type 0
ClosedShowsWithin = (g : Graph) (sources : List ℕ) (limit : ℕ) (words : Table) → IsClosedTable g sources limit words → ShowsWithin g sources limit words

-- If no vertex is left out, the table is the forest, and no vertex is too far.
abbrev pub FinishedIsForest : Type 0
FinishedIsForest = (g : Graph) (sources : List ℕ) (max : ℕ) (words : Table) → IsFinished g sources max words → ((v : ℕ) → IsLeftOut g words v → ⊥) → IsForest g sources words × IsFar g sources max None

-- The smallest vertex that is left out is the vertex that is too far.
abbrev pub FinishedIsFar : Type 0
FinishedIsFar = (g : Graph) (sources : List ℕ) (max : ℕ) (words : Table) → IsFinished g sources max words → (v : ℕ) → IsLeftOut g words v → ((w : ℕ) → IsLeftOut g words w → v ≤ w) → IsFar g sources max (Some v)

-- ## Meanings

-- The least of the least lengths from each source is d.
abbrev pub IsLeastOfAll : Graph → (sources : List ℕ) → (v d : ℕ) → Type 0
IsLeastOfAll g sources v d = ((s : ℕ) × Contains sources s × IsLeast g s v d) × ((s e : ℕ) → Contains sources s → IsLeast g s v e → d ≤ e)

-- The least distance from any of the sources is the least of the least lengths from each.
abbrev pub NearestIsLeastOfAll : Type 0
NearestIsLeastOfAll = (g : Graph) (sources : List ℕ) (v d : ℕ) → IsGraph g → IsNearest g sources v d ↔ IsLeastOfAll g sources v d

-- A graph and sources determine one forest, one part of it within a distance, and at most one vertex that is too far.
pub record ForestsAreOne : Type 0 where
  pub forest : (g : Graph) (sources : List ℕ) (a b : Table) → IsForest g sources a → IsForest g sources b → (v : ℕ) → IsVertex g.n v → a v ≡ b v
  pub far : (g : Graph) (sources : List ℕ) (max : ℕ) (a b : Option ℕ) → IsFar g sources max a → IsFar g sources max b → a ≡ b

-- The forest of one source is its tree.
pub record OneSource (g : Graph) (s : ℕ) : Type 0 where
  pub nearest : (v d : ℕ) → IsNearest g (s ∷ []) v d ↔ IsLeast g s v d
  pub word : (v : ℕ) (w : Word) → IsForestWord g (s ∷ []) v w ↔ IsTreeWord g s v w
  pub forest : (words : Table) → IsForest g (s ∷ []) words ↔ IsTree g s words
  pub within : (max : ℕ) (words : Table) → IsForestWithin g (s ∷ []) max words ↔ EndsInTree g s max words
  pub far : (max : ℕ) (v : Option ℕ) → IsFar g (s ∷ []) max v ↔ IsFarFromOne g s max v

-- This is true of every graph and every source.
abbrev pub ForestOfOneIsTree : Type 0
ForestOfOneIsTree = (g : Graph) (s : ℕ) → OneSource g s

-- The graph has a forest, and no vertex is too far.
abbrev pub HasForest : Graph → (sources : List ℕ) → (max : ℕ) → Type 0
HasForest g sources max = (words : Table) × IsForest g sources words × IsFar g sources max None

-- For every list of vertices there is an answer: its forest, or the smallest vertex that is too far.
abbrev pub ForestsExist : Type 0
ForestsExist = (g : Graph) (sources : List ℕ) (max : ℕ) → IsGraph g → All (IsVertex g.n) sources → HasForest g sources max ⊎ ((v : ℕ) × IsFar g sources max (Some v))

-- ## The sources are a set

-- The lists have the same sources.
pub record SameSources (a b : List ℕ) : Type 0 where
  pub there : (s : ℕ) → Contains a s → Contains b s
  pub back : (s : ℕ) → Contains b s → Contains a s

-- Whatever is true of one list of sources is true of the other.
pub record AreAlike (g : Graph) (a b : List ℕ) : Type 0 where
  pub nearest : (v d : ℕ) → IsNearest g a v d ↔ IsNearest g b v d
  pub forest : (words : Table) → IsForest g a words ↔ IsForest g b words
  pub within : (max : ℕ) (words : Table) → IsForestWithin g a max words ↔ IsForestWithin g b max words
  pub far : (max : ℕ) (v : Option ℕ) → IsFar g a max v ↔ IsFar g b max v

-- Neither the order of the sources matters, nor how often a source is in the list.
abbrev pub SourcesAreASet : Type 0
SourcesAreASet = (g : Graph) (a b : List ℕ) → SameSources a b → AreAlike g a b

-- ## Roots

-- The vertex has one root: a source from which its distance is the least length.
pub record HasRoot (g : Graph) (sources : List ℕ) (words : Table) (v : ℕ) : Type 0 where
  pub root : ℕ
  pub is : IsRoot words v root
  pub source : Contains sources root
  pub dist : (d p : ℕ) → words v ≡ Pair d p → IsLeast g root v d
  pub one : (r : ℕ) → IsRoot words v r → r ≡ root

-- Chains of predecessors end, and each reached vertex has a root.
pub record HasRoots (g : Graph) (sources : List ℕ) (words : Table) : Type 0 where
  pub falls : FallsBack g.n words
  pub roots : (v d p : ℕ) → IsVertex g.n v → words v ≡ Pair d p → HasRoot g sources words v

-- Every forest has roots.
abbrev pub ForestHasRoots : Type 0
ForestHasRoots = (g : Graph) (sources : List ℕ) (words : Table) → IsGraph g → All (IsVertex g.n) sources → IsForest g sources words → HasRoots g sources words

-- Every part of a forest within a distance has roots.
abbrev pub PartHasRoots : Type 0
PartHasRoots = (g : Graph) (sources : List ℕ) (max : ℕ) (words : Table) → IsGraph g → IsForestWithin g sources max words → HasRoots g sources words
