-- What arcs show about a table of words.
use Rattle.std.specs.Prelude.{◌≡◌, ℕ, ◌≤◌, min, List, [], ◌∷◌, ◌++◌, All, Any, Contains}
use Rattle.sp_word.specs.Word.{Word, Pair, Unreached}
use Rattle.sp_word.specs.History.{Table}
use Rattle.sp_paths.specs.declared.arc.Arc.{Arc}
use Rattle.sp_paths.specs.Paths.{Graph, IsVertex, IsRelaxed}
use Rattle.sp_paths.specs.Rows.{row_of, IsArcRelaxed as IsRelaxedAtDist}
use Rattle.sp_judge.specs.declared.scan.Scan.{Scan}
use Rattle.sp_judge.specs.declared.scan.Scan.TheVariants.{Whole, LeavesOut, Open}

-- The arc is relaxed.
abbrev pub IsArcRelaxed : (max : ℕ) → Table → Arc → Type 0
IsArcRelaxed max words a = IsRelaxed max words a.tail a.head a.len

-- The arc leads from a reached vertex to an unreached one.
abbrev pub LeadsOut : Table → Arc → Type 0
LeadsOut words a = (d p : ℕ) × (words a.tail ≡ Pair d p) × (words a.head ≡ Unreached)

-- All arcs are relaxed, and they leave out no vertex, or this one as the smallest; or some arc isn't relaxed.
abbrev pub Shows : (max : ℕ) → Table → List Arc → Scan → Type 0
Shows max words arcs Whole = All (IsArcRelaxed max words) arcs × All (λ a. LeadsOut words a → ⊥) arcs
Shows max words arcs (LeavesOut v) = All (IsArcRelaxed max words) arcs × Any (λ a. (a.head ≡ v) × LeadsOut words a) arcs × All (λ a. LeadsOut words a → v ≤ a.head) arcs
Shows max words arcs Open = Any (λ a. IsArcRelaxed max words a → ⊥) arcs

-- A list has the tail of each arc that isn't relaxed, and no other vertex.
pub record AreOpenTails (max : ℕ) (words : Table) (arcs : List Arc) (tails : List ℕ) : Type 0 where
  pub each : All (λ a. (IsArcRelaxed max words a → ⊥) → Contains tails a.tail) arcs
  pub only : All (λ v. Any (λ a. (a.tail ≡ v) × (IsArcRelaxed max words a → ⊥)) arcs) tails

-- Such a list for some arcs becomes one for one more arc.
abbrev pub TakesArc : (max : ℕ) → Table → Arc → (before after : List ℕ) → Type 0
TakesArc max words a before after = (arcs : List Arc) → AreOpenTails max words arcs before → AreOpenTails max words (arcs ++ a ∷ []) after

-- If the tail of the arc has the word `from`, the arc is relaxed.
abbrev pub IsRelaxedFrom : (max : ℕ) → Table → (from : Word) → Arc → Type 0
IsRelaxedFrom max words from a = (d p : ℕ) → from ≡ Pair d p → IsRelaxedAtDist max words d a

-- If the vertex has a distance of at most `far`, its arcs are relaxed at this distance.
abbrev pub IsRowClosedUpTo : Graph → (max far : ℕ) → Table → (u : ℕ) → Type 0
IsRowClosedUpTo g max far words u = (d p : ℕ) → words u ≡ Pair d p → d ≤ far → All (IsRelaxedAtDist max words d) (row_of g.arcs u)

-- This is true of each vertex.
abbrev pub IsClosedUpTo : Graph → (max far : ℕ) → Table → Type 0
IsClosedUpTo g max far words = (u : ℕ) → IsVertex g.n u → IsRowClosedUpTo g max far words u

-- What two parts of the arcs show together.
abbrev pub both_of : Scan → Scan → Scan
both_of first Whole = first
both_of first Open = Open
both_of Whole (LeavesOut v) = LeavesOut v
both_of Open (LeavesOut v) = Open
both_of (LeavesOut u) (LeavesOut v) = LeavesOut (min u v)
