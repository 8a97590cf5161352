-- The theorems about the definitions of Paths. Each statement is the contract of a function of this crate.
use Rattle.std.specs.Prelude.{◌≡◌, ℕ, ◌+◌, ◌*◌, ◌<◌, ◌≤◌, ◌↔◌, ◌⊎◌, Option, Some, None}
use Rattle.sp_word.specs.History.{Table}
use Rattle.sp_word.specs.Word.{Pair, Unreached}
use Rattle.sp_paths.specs.Paths.{Graph, IsGraph, IsVertex, HasWalk, IsLeast, IsTree, IsFar, IsPair, PairAnswer, Found, TooFar, NoWalk, IsTableFrom, IsWithin, IsClosed, EndsInTree, IsLeftOut, IsRelaxedLight, IsRelaxedHeavy, IsSettled}

-- A run from s has finished: its table holds walks of length at most max, and every arc is relaxed.
pub record IsFinished (g : Graph) (s max : ℕ) (words : Table) : Type 0 where
  pub graph : IsGraph g
  pub source : IsVertex g.n s
  pub table : IsTableFrom g s words
  pub within : IsWithin g.n max words
  pub closed : IsClosed g max words

-- Every vertex near the source has its word in the tree, and the others are unreached.
abbrev pub FinishedEndsInTree : Type 0
FinishedEndsInTree = (g : Graph) (s max : ℕ) (words : Table) → IsFinished g s max words → EndsInTree g s max words

-- If no vertex is left out, the table is the tree and no vertex is too far.
abbrev pub FinishedIsTree : Type 0
FinishedIsTree = (g : Graph) (s max : ℕ) (words : Table) → IsFinished g s max words → ((v : ℕ) → IsLeftOut g words v → ⊥) → IsTree g s words × IsFar g s max None

-- The smallest vertex that is left out is the vertex that is too far.
abbrev pub FinishedIsFar : Type 0
FinishedIsFar = (g : Graph) (s max : ℕ) (words : Table) → IsFinished g s max words → (v : ℕ) → IsLeftOut g words v → ((w : ℕ) → IsLeftOut g words w → v ≤ w) → IsFar g s max (Some v)

-- This is the answer of a finished table for one target.
pub record FinishedAnswers (g : Graph) (s max : ℕ) (words : Table) (t : ℕ) : Type 0 where
  pub found : (d p : ℕ) → IsVertex g.n t → words t ≡ Pair d p → IsPair g s t max (Found d p)
  pub too_far : (v : ℕ) → words t ≡ Unreached → IsLeftOut g words v → ((w : ℕ) → IsLeftOut g words w → v ≤ w) → IsPair g s t max (TooFar v)
  pub no_walk : words t ≡ Unreached → ((v : ℕ) → IsLeftOut g words v → ⊥) → IsPair g s t max NoWalk

-- A finished table has the answer for every target.
abbrev pub FinishedIsPair : Type 0
FinishedIsPair = (g : Graph) (s max : ℕ) (words : Table) → IsFinished g s max words → (t : ℕ) → FinishedAnswers g s max words t

-- Bucket i has passed its test: each distance below its end was relaxed light, and each distance below its beginning
-- also heavy.
pub record HasPassed (g : Graph) (s max delta i : ℕ) (words : Table) : Type 0 where
  pub graph : IsGraph g
  pub source : IsVertex g.n s
  pub wide : 1 ≤ delta
  pub table : IsTableFrom g s words
  pub light : IsRelaxedLight g max delta ((i + 1) * delta) words
  pub heavy : IsRelaxedHeavy g max delta (i * delta) words

-- Then every vertex whose least length is in the bucket or in an earlier one is final.
abbrev pub PassedIsSettled : Type 0
PassedIsSettled = (g : Graph) (s max delta i : ℕ) (words : Table) → HasPassed g s max delta i words → IsSettled g s max ((i + 1) * delta) words

-- A target whose word is in one of these buckets has its answer.
abbrev pub PassedIsPair : Type 0
PassedIsPair = (g : Graph) (s max delta i : ℕ) (words : Table) → HasPassed g s max delta i words → (t d p : ℕ) → IsVertex g.n t → words t ≡ Pair d p → d < (i + 1) * delta → d ≤ max → IsPair g s t max (Found d p)

-- If there is a walk, there is a least length.
abbrev pub LeastExists : Type 0
LeastExists = (g : Graph) (s v e : ℕ) → IsGraph g → HasWalk g s v e → (d : ℕ) × IsLeast g s v d × (d ≤ e)

-- A graph, a source and a target determine one tree, at most one vertex that is too far, and one answer.
pub record AnswersAreOne : Type 0 where
  pub least : (g : Graph) (s v d e : ℕ) → IsLeast g s v d → IsLeast g s v e → d ≡ e
  pub tree : (g : Graph) (s : ℕ) (a b : Table) → IsTree g s a → IsTree g s b → (v : ℕ) → IsVertex g.n v → a v ≡ b v
  pub far : (g : Graph) (s max : ℕ) (a b : Option ℕ) → IsFar g s max a → IsFar g s max b → a ≡ b
  pub pair : (g : Graph) (s t max : ℕ) (a b : PairAnswer) → IsPair g s t max a → IsPair g s t max b → a ≡ b

-- No vertex is too far exactly if every least length is at most max; and an answer of no walk means that there is none.
pub record FarMeans (g : Graph) (s max : ℕ) : Type 0 where
  pub none : IsFar g s max None ↔ ((v d : ℕ) → IsLeast g s v d → d ≤ max)
  pub no_walk : (t : ℕ) → IsPair g s t max NoWalk → (d : ℕ) → HasWalk g s t d → ⊥

-- This is true of every graph.
abbrev pub FarIsMeant : Type 0
FarIsMeant = (g : Graph) (s max : ℕ) → IsGraph g → FarMeans g s max

-- The graph has a tree from s, and no vertex is too far.
abbrev pub HasTree : Graph → (s max : ℕ) → Type 0
HasTree g s max = (words : Table) × IsTree g s words × IsFar g s max None

-- For every source there is an answer: its tree, or the smallest vertex that is too far.
abbrev pub TreesExist : Type 0
TreesExist = (g : Graph) (s max : ℕ) → IsGraph g → IsVertex g.n s → HasTree g s max ⊎ ((v : ℕ) × IsFar g s max (Some v))

-- For every target there is an answer too.
abbrev pub PairsExist : Type 0
PairsExist = (g : Graph) (s t max : ℕ) → IsGraph g → IsVertex g.n s → IsVertex g.n t → (answer : PairAnswer) × IsPair g s t max answer
