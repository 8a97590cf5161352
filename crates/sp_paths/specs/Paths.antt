-- Graphs with positive lengths, walks, least lengths, and shortest-path trees. These definitions mention no bucket, no
-- order of work and no packed word.
use Rattle.std.specs.Prelude.{◌≡◌, ◌≢◌, ℕ, ◌+◌, ◌-◌, ◌<◌, ◌≤◌, ◌⊎◌, List, [], ◌∷◌, ◌++◌, slice_index_or, All, Contains, sum_by, Option, Some, None}
use Rattle.sp_word.specs.Word.{Word, Unreached, Pair}
use Rattle.sp_word.specs.History.{Table}
use Rattle.sp_paths.specs.declared.arc.Arc.{Arc}
use Rattle.sp_paths.specs.declared.offer.Offer.{Offer}
use Rattle.sp_paths.specs.declared.offer.Offer.TheVariants.{NoTail, Beyond, Within}

-- ## Graphs

-- A graph has the vertices 1 to n and a bag of arcs: no definition below depends on the order of the list.
pub record Graph : Type 0 where
  pub n : ℕ
  pub arcs : List Arc

-- The vertices are the numbers from 1 to n.
abbrev pub IsVertex : ℕ → ℕ → Type 0
IsVertex n v = (1 ≤ v) × (v ≤ n)

-- Tail and head are vertices, and the length is positive.
abbrev pub IsArc : ℕ → Arc → Type 0
IsArc n a = IsVertex n a.tail × IsVertex n a.head × (1 ≤ a.len)

-- Every arc connects vertices of the graph and has a positive length.
abbrev pub IsGraph : Graph → Type 0
IsGraph g = All (IsArc g.n) g.arcs

-- The graph has an arc from u to v of length l.
abbrev pub HasArc : Graph → (u v l : ℕ) → Type 0
HasArc g u v l = Contains g.arcs (record { tail = u; head = v; len = l })

-- ## Walks

-- The first arc leaves s, each next arc leaves the head of the one before, and the last arc enters v.
abbrev pub LeadsTo : List Arc → (s v : ℕ) → Type 0
LeadsTo [] s v = s ≡ v
LeadsTo (a ∷ rest) s v = (a.tail ≡ s) × LeadsTo rest a.head v

-- A walk from s to v is a list of arcs of the graph that leads from s to v.
pub record IsWalk (g : Graph) (s v : ℕ) (walk : List Arc) : Type 0 where
  pub of_arcs : All (λ a. Contains g.arcs a) walk
  pub leads : LeadsTo walk s v

-- The length of a walk is the sum of the lengths of its arcs.
abbrev pub walk_length : List Arc → ℕ
walk_length walk = sum_by (λ a. a.len) walk

-- Some walk from s to v has length d.
abbrev pub HasWalk : Graph → (s v d : ℕ) → Type 0
HasWalk g s v d = (walk : List Arc) × IsWalk g s v walk × (walk_length walk ≡ d)

-- Some walk from s to v has length d, and its last arc leaves p.
abbrev pub HasWalkBy : Graph → (s v d p : ℕ) → Type 0
HasWalkBy g s v d p = (walk : List Arc) × (last : Arc) × IsWalk g s v (walk ++ last ∷ []) × (walk_length (walk ++ last ∷ []) ≡ d) × (last.tail ≡ p)

-- The least length of a walk from s to v is d.
pub record IsLeast (g : Graph) (s v d : ℕ) : Type 0 where
  pub walk : HasWalk g s v d
  pub least : (e : ℕ) → HasWalk g s v e → d ≤ e

-- ## The tree

-- Some arc leads from u to v, and its length l satisfies Least(u) + l = d.
abbrev pub IsPredecessor : Graph → (s v d u : ℕ) → Type 0
IsPredecessor g s v d u = (c l : ℕ) × IsLeast g s u c × HasArc g u v l × (c + l ≡ d)

-- The least length of a walk to v is d, and p is the smallest vertex before v on such a walk.
pub record IsTreePair (g : Graph) (s v d p : ℕ) : Type 0 where
  pub least : IsLeast g s v d
  pub before : IsPredecessor g s v d p
  pub smallest : (u : ℕ) → IsPredecessor g s v d u → p ≤ u

-- The vertex is the source, and the pair is (0, 0).
abbrev pub IsSourcePair : (s v d p : ℕ) → Type 0
IsSourcePair s v d p = (v ≡ s) × (d ≡ 0) × (p ≡ 0)

-- This is the word of v in the tree from s.
abbrev pub IsTreeWord : Graph → (s v : ℕ) → Word → Type 0
IsTreeWord g s v Unreached = (d : ℕ) → HasWalk g s v d → ⊥
IsTreeWord g s v (Pair d p) = IsSourcePair s v d p ⊎ ((v ≢ s) × IsTreePair g s v d p)

-- The table maps each vertex to its word in the tree from s.
abbrev pub IsTree : Graph → (s : ℕ) → Table → Type 0
IsTree g s words = (v : ℕ) → IsVertex g.n v → IsTreeWord g s v (words v)

-- The table of a list of words maps vertex v to the word at index v - 1.
abbrev pub word_at : List Word → Table
word_at words v = slice_index_or words (v - 1) Unreached

-- ## Too far

-- The least length of v is above max, and v has an arc from a vertex whose least length is at most max.
pub record IsBeyond (g : Graph) (s max v : ℕ) : Type 0 where
  pub dist : ℕ
  pub least : IsLeast g s v dist
  pub above : max < dist
  pub tail : ℕ
  pub tail_dist : ℕ
  pub tail_least : IsLeast g s tail tail_dist
  pub tail_within : tail_dist ≤ max
  pub len : ℕ
  pub arc : HasArc g tail v len

-- This is the smallest vertex beyond max, or none.
abbrev pub IsFar : Graph → (s max : ℕ) → Option ℕ → Type 0
IsFar g s max None = (v : ℕ) → IsBeyond g s max v → ⊥
IsFar g s max (Some v) = IsBeyond g s max v × ((w : ℕ) → IsBeyond g s max w → v ≤ w)

-- ## One target

-- The answer for a target: its distance and its predecessor, or a vertex that is too far, or that there is no walk to
-- it.
pub data PairAnswer : Type 0 where
  Found : (dist pred : ℕ) → PairAnswer
  TooFar : (vertex : ℕ) → PairAnswer
  NoWalk : PairAnswer

-- The vertex v has a least length, and it is at most max.
abbrev pub IsNear : Graph → (s max v : ℕ) → Type 0
IsNear g s max v = (d : ℕ) × IsLeast g s v d × (d ≤ max)

-- The answer for a target is its word in the tree if its least length is at most max; otherwise the vertex that is too
-- far, if there is one; otherwise that no walk leads to it.
abbrev pub IsPair : Graph → (s target max : ℕ) → PairAnswer → Type 0
IsPair g s t max (Found d p) = IsNear g s max t × IsTreeWord g s t (Pair d p)
IsPair g s t max (TooFar v) = (IsNear g s max t → ⊥) × IsFar g s max (Some v)
IsPair g s t max NoWalk = (IsNear g s max t → ⊥) × IsFar g s max None

-- ## Tables of words, by vertex

-- Every pair consists of the length of a walk and the tail of its last arc; at the source it may be (0, 0).
abbrev pub IsLawful : Graph → (s v : ℕ) → Word → Type 0
IsLawful g s v Unreached = Unit {0}
IsLawful g s v (Pair d p) = IsSourcePair s v d p ⊎ HasWalkBy g s v d p

-- What the arc offers its head if its tail has the word `from`: the sum and the tail, if the sum is at most max.
abbrev pub IsOffered : {P : ℕ} → (max : ℕ) → (from : Word) → Arc → Offer P → Type 0
IsOffered max from a NoTail = from ≡ Unreached
IsOffered max from a Beyond = (d p : ℕ) × (from ≡ Pair d p) × (max < d + a.len)
IsOffered max from a (Within w) = (d p : ℕ) × (from ≡ Pair d p) × (d + a.len ≤ max) × (w ≡ Pair (d + a.len) a.tail)

-- The word is at most the pair (d, p): by distance, then by predecessor, with unreached last.
abbrev pub IsAtMost : Word → (d p : ℕ) → Type 0
IsAtMost Unreached d p = ⊥
IsAtMost (Pair e q) d p = (e < d) ⊎ ((e ≡ d) × (q ≤ p))

-- The arc from u to v is relaxed: the word of v is at most what the arc offers from the word of u, if that is within
-- the limit.
abbrev pub IsRelaxed : (limit : ℕ) → Table → (u v l : ℕ) → Type 0
IsRelaxed limit words u v l = (d p : ℕ) → words u ≡ Pair d p → d + l ≤ limit → IsAtMost (words v) (d + l) u

-- Every arc of the graph is relaxed.
abbrev pub IsClosed : Graph → (limit : ℕ) → Table → Type 0
IsClosed g limit words = (u v l : ℕ) → HasArc g u v l → IsRelaxed limit words u v l

-- The table belongs to a run from s: its pairs come from walks, and the source has its own pair.
pub record IsTableFrom (g : Graph) (s : ℕ) (words : Table) : Type 0 where
  pub lawful : (v : ℕ) → IsVertex g.n v → IsLawful g s v (words v)
  pub source : words s ≡ Pair 0 0

-- The distance of every pair is at most max.
abbrev pub IsWithin : ℕ → (max : ℕ) → Table → Type 0
IsWithin n max words = (v d p : ℕ) → IsVertex n v → words v ≡ Pair d p → d ≤ max

-- The run has ended: each vertex near the source has its word in the tree, and every other vertex is unreached.
pub record EndsInTree (g : Graph) (s max : ℕ) (words : Table) : Type 0 where
  pub near : (v : ℕ) → IsNear g s max v → IsTreeWord g s v (words v)
  pub others : (v : ℕ) → IsVertex g.n v → (IsNear g s max v → ⊥) → words v ≡ Unreached

-- Some arc leads from a reached vertex to v, which is unreached.
abbrev pub IsLeftOut : Graph → Table → (v : ℕ) → Type 0
IsLeftOut g words v = (u l d p : ℕ) × HasArc g u v l × (words u ≡ Pair d p) × (words v ≡ Unreached)

-- Each vertex whose least length is below the bound and at most max has its word in the tree.
abbrev pub IsSettled : Graph → (s max bound : ℕ) → Table → Type 0
IsSettled g s max bound words = (v d : ℕ) → IsLeast g s v d → d < bound → d ≤ max → IsTreeWord g s v (words v)

-- The light arcs of each vertex with a distance below the bound were relaxed at that distance.
abbrev pub IsRelaxedLight : Graph → (max delta bound : ℕ) → Table → Type 0
IsRelaxedLight g max delta bound words = (u v l d p : ℕ) → HasArc g u v l → l ≤ delta → words u ≡ Pair d p → d < bound → d + l ≤ max → IsAtMost (words v) (d + l) u

-- The heavy arcs of each such vertex were relaxed at that distance too.
abbrev pub IsRelaxedHeavy : Graph → (max delta bound : ℕ) → Table → Type 0
IsRelaxedHeavy g max delta bound words = (u v l d p : ℕ) → HasArc g u v l → delta < l → words u ≡ Pair d p → d < bound → d + l ≤ max → IsAtMost (words v) (d + l) u
