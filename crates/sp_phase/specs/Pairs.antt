-- The answer of a run for one target.
use Rattle.std.specs.Prelude.{◌≡◌, ℕ, ◌<◌, Option, Some, None}
use Rattle.sp_word.specs.Word.{Word, Pair, Unreached, max_dist}
use Rattle.sp_paths.specs.Paths.{Graph, IsVertex, IsPair, Found, NoWalk, word_at}
use Rattle.sp_paths.specs.Paths.{TooFar as FarVertex}
use Rattle.sp_answer.specs.declared.answer.RunError.{RunError}
use Rattle.sp_answer.specs.declared.answer.RunError.TheVariants.{Memory, TooFar, NoSuchVertex}
use Rattle.sp_phase.specs.declared.advancing.AdvanceUntil.{AdvanceUntil}
use Rattle.sp_phase.specs.declared.advancing.AdvanceUntil.TheVariants.{Final}
use Rattle.sp_phase.specs.Lead.{Lead}
use Rattle.sp_phase.specs.Sweep.{HasSwept}

-- The source and the target are vertices of the graph.
abbrev pub AreVertices : Graph → (s t : ℕ) → Type 0
AreVertices g s t = IsVertex g.n s × IsVertex g.n t

-- The answer is the target's word in the tree, or that no walk leads to it.
abbrev pub IsPairAnswer : (P : ℕ) → Graph → (s t : ℕ) → Option Word → Type 0
IsPairAnswer P g s t None = AreVertices g s t × IsPair g s t (max_dist P) NoWalk
IsPairAnswer P g s t (Some Unreached) = ⊥
IsPairAnswer P g s t (Some (Pair d p)) = AreVertices g s t × IsPair g s t (max_dist P) (Found d p)

-- The refusal is NoSuchVertex exactly if the source or the target is no vertex; and it names a vertex as too far only if
-- the target has no least length that fits a word, and that vertex is too far.
abbrev pub IsPairRefusal : (P : ℕ) → Graph → (s t : ℕ) → RunError → Type 0
IsPairRefusal P g s t Memory = AreVertices g s t
IsPairRefusal P g s t (TooFar v) = AreVertices g s t × IsPair g s t (max_dist P) (FarVertex v)
IsPairRefusal P g s t NoSuchVertex = AreVertices g s t → ⊥

-- ## The leader of such a run

-- The word has a distance below this one.
abbrev pub IsBelowDist : Word → (end : ℕ) → Type 0
IsBelowDist Unreached end = ⊥
IsBelowDist (Pair d p) end = d < end

-- This is what a run may continue until: the word of a vertex.
abbrev pub IsWithinGraph : Graph → AdvanceUntil → Type 0
IsWithinGraph g until = (t : ℕ) → until ≡ Final t → IsVertex g.n t

-- The leader's copy has the target's word in the tree; if it has none, no vertex is open in the copy.
pub record KnowsTarget (P : ℕ) (t : ℕ) (l : Lead) : Type 0 where
  pub found : (d p : ℕ) → word_at l.words t ≡ Pair d p → IsPair l.stage.graph l.stage.source t (max_dist P) (Found d p)
  pub none : word_at l.words t ≡ Unreached → HasSwept P l

-- This holds for the target for which the run continued.
abbrev pub KnowsFinal : (P : ℕ) → AdvanceUntil → Lead → Type 0
KnowsFinal P until l = (t : ℕ) → until ≡ Final t → KnowsTarget P t l
