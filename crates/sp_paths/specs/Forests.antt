-- Several sources: the least distance of each vertex from any of them, and the forest of shortest paths. The sources
-- are a list of vertices. Neither its order matters nor how often it has a source.
use Rattle.std.specs.Prelude.{◌≡◌, ℕ, ◌+◌, ◌<◌, ◌≤◌, ◌⊎◌, List, All, Contains, Option, Some, None}
use Rattle.sp_word.specs.Word.{Word, Unreached, Pair}
use Rattle.sp_word.specs.History.{Table}
use Rattle.sp_paths.specs.Paths.{Graph, IsGraph, IsVertex, HasArc, HasWalk, HasWalkBy, IsClosed, IsWithin}

-- ## Distances

-- Some walk from one of the sources to v has length d.
abbrev pub HasWalkFromAny : Graph → (sources : List ℕ) → (v d : ℕ) → Type 0
HasWalkFromAny g sources v d = (s : ℕ) × Contains sources s × HasWalk g s v d

-- Some walk from one of the sources to v has length d, and its last arc leaves p.
abbrev pub HasWalkFromAnyBy : Graph → (sources : List ℕ) → (v d p : ℕ) → Type 0
HasWalkFromAnyBy g sources v d p = (s : ℕ) × Contains sources s × HasWalkBy g s v d p

-- The least length of a walk to v from any of the sources is d.
pub record IsNearest (g : Graph) (sources : List ℕ) (v d : ℕ) : Type 0 where
  pub walk : HasWalkFromAny g sources v d
  pub least : (e : ℕ) → HasWalkFromAny g sources v e → d ≤ e

-- ## The forest

-- Some arc leads from u to v, and its length l satisfies dist(u) + l = d.
abbrev pub IsPredecessor : Graph → (sources : List ℕ) → (v d u : ℕ) → Type 0
IsPredecessor g sources v d u = (c l : ℕ) × IsNearest g sources u c × HasArc g u v l × (c + l ≡ d)

-- The least length of a walk to v from any source is d, and p is the smallest vertex before v on such a walk.
pub record IsForestPair (g : Graph) (sources : List ℕ) (v d p : ℕ) : Type 0 where
  pub least : IsNearest g sources v d
  pub before : IsPredecessor g sources v d p
  pub smallest : (u : ℕ) → IsPredecessor g sources v d u → p ≤ u

-- The vertex is a source, and the pair is (0, 0).
abbrev pub IsSourcePair : (sources : List ℕ) → (v d p : ℕ) → Type 0
IsSourcePair sources v d p = Contains sources v × (d ≡ 0) × (p ≡ 0)

-- This is the word of v in the forest.
abbrev pub IsForestWord : Graph → (sources : List ℕ) → (v : ℕ) → Word → Type 0
IsForestWord g sources v Unreached = (d : ℕ) → HasWalkFromAny g sources v d → ⊥
IsForestWord g sources v (Pair d p) = IsSourcePair sources v d p ⊎ ((Contains sources v → ⊥) × IsForestPair g sources v d p)

-- The table maps each vertex to its word in the forest.
abbrev pub IsForest : Graph → (sources : List ℕ) → Table → Type 0
IsForest g sources words = (v : ℕ) → IsVertex g.n v → IsForestWord g sources v (words v)

-- The vertex v has a least distance from the sources, and it is at most max.
abbrev pub IsNear : Graph → (sources : List ℕ) → (max v : ℕ) → Type 0
IsNear g sources max v = (d : ℕ) × IsNearest g sources v d × (d ≤ max)

-- Each vertex whose least distance is at most max has its word in the forest, and every other vertex is unreached.
pub record IsForestWithin (g : Graph) (sources : List ℕ) (max : ℕ) (words : Table) : Type 0 where
  pub near : (v : ℕ) → IsNear g sources max v → IsForestWord g sources v (words v)
  pub others : (v : ℕ) → IsVertex g.n v → (IsNear g sources max v → ⊥) → words v ≡ Unreached

-- ## Too far

-- The least distance of v is above max, and v has an arc from a vertex whose least distance is at most max.
pub record IsBeyond (g : Graph) (sources : List ℕ) (max v : ℕ) : Type 0 where
  pub dist : ℕ
  pub least : IsNearest g sources v dist
  pub above : max < dist
  pub tail : ℕ
  pub tail_dist : ℕ
  pub tail_least : IsNearest g sources tail tail_dist
  pub tail_within : tail_dist ≤ max
  pub len : ℕ
  pub arc : HasArc g tail v len

-- This is the smallest vertex beyond max, or none.
abbrev pub IsFar : Graph → (sources : List ℕ) → (max : ℕ) → Option ℕ → Type 0
IsFar g sources max None = (v : ℕ) → IsBeyond g sources max v → ⊥
IsFar g sources max (Some v) = IsBeyond g sources max v × ((w : ℕ) → IsBeyond g sources max w → v ≤ w)

-- ## Tables of words

-- Every pair consists of the length of a walk from a source and the tail of its last arc; at a source it may be (0, 0).
abbrev pub IsLawful : Graph → (sources : List ℕ) → (v : ℕ) → Word → Type 0
IsLawful g sources v Unreached = Unit {0}
IsLawful g sources v (Pair d p) = IsSourcePair sources v d p ⊎ HasWalkFromAnyBy g sources v d p

-- The table belongs to a run from the sources: its pairs come from walks, and each source has its own pair.
pub record IsTableFrom (g : Graph) (sources : List ℕ) (words : Table) : Type 0 where
  pub lawful : (v : ℕ) → IsVertex g.n v → IsLawful g sources v (words v)
  pub own : (s : ℕ) → Contains sources s → words s ≡ Pair 0 0

-- The table belongs to a run, and every arc is relaxed up to the limit.
pub record IsClosedTable (g : Graph) (sources : List ℕ) (limit : ℕ) (words : Table) : Type 0 where
  pub graph : IsGraph g
  pub vertices : All (IsVertex g.n) sources
  pub table : IsTableFrom g sources words
  pub closed : IsClosed g limit words

-- The run has finished: its table holds walks of length at most max, and every arc is relaxed.
pub record IsFinished (g : Graph) (sources : List ℕ) (max : ℕ) (words : Table) : Type 0 where
  pub all : IsClosedTable g sources max words
  pub within : IsWithin g.n max words
