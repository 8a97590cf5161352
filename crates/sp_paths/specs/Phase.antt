-- What the leader of a run knows between rounds, and what follows from its copy of the words.
use Rattle.std.specs.Prelude.{◌≡◌, ℕ, ◌+◌, ◌*◌, ◌<◌, ◌≤◌, Option, Some, None}
use Rattle.sp_word.specs.History.{Table}
use Rattle.sp_word.specs.Word.{Word, Pair, Unreached}
use Rattle.sp_paths.specs.Paths.{Graph, IsGraph, IsVertex, HasArc, IsTree, IsFar, IsLawful, IsAtMost, IsTableFrom, IsWithin, IsLeftOut, EndsInTree, IsSettled, IsPair, Found}
use Rattle.sp_paths.specs.Theorems.{FinishedAnswers}

-- The light and the heavy arcs of each vertex were relaxed at the distances last recorded for it: the known word of
-- each head is at most what the arc then offered.
pub record IsRelaxedAt (g : Graph) (max delta : ℕ) (known : Table) (light heavy : ℕ → Option ℕ) : Type 0 where
  pub light_arcs : (u v l d : ℕ) → HasArc g u v l → l ≤ delta → light u ≡ Some d → d + l ≤ max → IsAtMost (known v) (d + l) u
  pub heavy_arcs : (u v l d : ℕ) → HasArc g u v l → delta < l → heavy u ≡ Some d → d + l ≤ max → IsAtMost (known v) (d + l) u

-- Each word is at most the known one.
abbrev pub IsNoGreater : Table → Table → Type 0
IsNoGreater words known = (v d p : ℕ) → IsAtMost (known v) d p → IsAtMost (words v) d p

-- This is a copy of lawful words, made after the relaxations.
pub record IsMarkedCopy (g : Graph) (s max delta : ℕ) (known words : Table) (light heavy : ℕ → Option ℕ) : Type 0 where
  pub graph : IsGraph g
  pub source : IsVertex g.n s
  pub wide : 1 ≤ delta
  pub table : IsTableFrom g s words
  pub within : IsWithin g.n max words
  pub relaxed : IsRelaxedAt g max delta known light heavy
  pub below : IsNoGreater words known

-- No vertex is open: each distance is the one last relaxed, both light and heavy.
abbrev pub HasNoOpen : Graph → Table → (light heavy : ℕ → Option ℕ) → Type 0
HasNoOpen g words light heavy = (u d p : ℕ) → IsVertex g.n u → words u ≡ Pair d p → (light u ≡ Some d) × (heavy u ≡ Some d)

-- If no vertex is open, the copy ends in the tree.
abbrev pub SweptEndsInTree : Type 0
SweptEndsInTree = (g : Graph) (s max delta : ℕ) (known words : Table) (light heavy : ℕ → Option ℕ) → IsMarkedCopy g s max delta known words light heavy → HasNoOpen g words light heavy → EndsInTree g s max words

-- If in addition no vertex is left out, the copy is the tree.
abbrev pub SweptIsTree : Type 0
SweptIsTree = (g : Graph) (s max delta : ℕ) (known words : Table) (light heavy : ℕ → Option ℕ) → IsMarkedCopy g s max delta known words light heavy → HasNoOpen g words light heavy → ((v : ℕ) → IsLeftOut g words v → ⊥) → IsTree g s words × IsFar g s max None

-- If some vertex is left out, the smallest such vertex is the one that is too far.
abbrev pub SweptIsFar : Type 0
SweptIsFar = (g : Graph) (s max delta : ℕ) (known words : Table) (light heavy : ℕ → Option ℕ) → IsMarkedCopy g s max delta known words light heavy → HasNoOpen g words light heavy → (v : ℕ) → IsLeftOut g words v → ((w : ℕ) → IsLeftOut g words w → v ≤ w) → IsFar g s max (Some v)

-- Bucket i passes its test: each distance below its end was last relaxed light, and each distance below its beginning
-- also heavy.
pub record PassesTest (g : Graph) (delta i : ℕ) (words : Table) (light heavy : ℕ → Option ℕ) : Type 0 where
  pub light_below : (u d p : ℕ) → IsVertex g.n u → words u ≡ Pair d p → d < (i + 1) * delta → light u ≡ Some d
  pub heavy_below : (u d p : ℕ) → IsVertex g.n u → words u ≡ Pair d p → d < i * delta → heavy u ≡ Some d

-- A bucket that passes its test is final.
abbrev pub TestedIsSettled : Type 0
TestedIsSettled = (g : Graph) (s max delta i : ℕ) (known words : Table) (light heavy : ℕ → Option ℕ) → IsMarkedCopy g s max delta known words light heavy → PassesTest g delta i words light heavy → IsSettled g s max ((i + 1) * delta) words

-- From then on a lawful pair below the bucket's end is never shorter than the word that it meets.
abbrev pub SettledIsLeast : Type 0
SettledIsLeast = (g : Graph) (s max bound : ℕ) (words : Table) → IsGraph g → IsSettled g s max bound words → (v d p : ℕ) → IsLawful g s v (Pair d p) → d < bound → d ≤ max → (e q : ℕ) × (words v ≡ Pair e q) × (e ≤ d)

-- The distance d is less than that of the word, which may be unreached.
abbrev pub IsShorter : ℕ → Word → Type 0
IsShorter d Unreached = Unit {0}
IsShorter d (Pair e q) = d < e

-- An offer that shortens the distance of a word therefore has a distance at or above the bound, and its entry belongs
-- to a later bucket.
abbrev pub ShorterIsLater : Type 0
ShorterIsLater = (g : Graph) (s max bound : ℕ) (words : Table) → IsGraph g → IsSettled g s max bound words → (v d p : ℕ) → IsLawful g s v (Pair d p) → d ≤ max → IsShorter d (words v) → bound ≤ d

-- A target whose copied word is in a tested bucket, or in an earlier one, has its answer.
abbrev pub TestedIsPair : Type 0
TestedIsPair = (g : Graph) (s max delta i : ℕ) (known words : Table) (light heavy : ℕ → Option ℕ) → IsMarkedCopy g s max delta known words light heavy → PassesTest g delta i words light heavy → (t d p : ℕ) → IsVertex g.n t → words t ≡ Pair d p → d < (i + 1) * delta → IsPair g s t max (Found d p)

-- This is the answer of a swept copy for one target.
abbrev pub SweptIsPair : Type 0
SweptIsPair = (g : Graph) (s max delta : ℕ) (known words : Table) (light heavy : ℕ → Option ℕ) → IsMarkedCopy g s max delta known words light heavy → HasNoOpen g words light heavy → (t : ℕ) → FinishedAnswers g s max words t
