-- The source from which a vertex is reached: where its chain of predecessors begins.
use Rattle.std.specs.Prelude.{◌≡◌, ℕ, zero, suc, ◌<◌, ◌⊎◌}
use Rattle.sp_word.specs.Word.{Word, Unreached, Pair}
use Rattle.sp_word.specs.History.{Table}
use Rattle.sp_paths.specs.Paths.{IsVertex}

-- This number of steps, each from a vertex to its predecessor, leads from v to r, and r has (0, 0).
abbrev pub LeadsBack : Table → (steps v r : ℕ) → Type 0
LeadsBack words zero v r = (v ≡ r) × (words v ≡ Pair 0 0)
LeadsBack words (suc steps) v r = (d p : ℕ) × (words v ≡ Pair d p) × (0 < d) × LeadsBack words steps p r

-- The chain of predecessors of v begins at r.
abbrev pub IsRoot : Table → (v r : ℕ) → Type 0
IsRoot words v r = (steps : ℕ) × LeadsBack words steps v r

-- This is the root of a reached vertex, or 0 for an unreached one.
abbrev pub IsRootOrNone : Table → (v r : ℕ) → Word → Type 0
IsRootOrNone words v r Unreached = r ≡ 0
IsRootOrNone words v r (Pair d p) = IsRoot words v r

-- The pair is (0, 0), or its predecessor is a vertex with a pair of a smaller distance.
abbrev pub IsBackStep : (n : ℕ) → Table → (d p : ℕ) → Type 0
IsBackStep n words d p = ((d ≡ 0) × (p ≡ 0)) ⊎ ((0 < d) × IsVertex n p × ((e q : ℕ) × (words p ≡ Pair e q) × (e < d)))

-- This is true of each pair, so chains of predecessors end.
abbrev pub FallsBack : (n : ℕ) → Table → Type 0
FallsBack n words = (v d p : ℕ) → IsVertex n v → words v ≡ Pair d p → IsBackStep n words d p
