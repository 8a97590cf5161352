-- Trees in the two slices of a caller: each slice has a block of n places for each source.
use Rattle.std.specs.Prelude.{◌≡◌, ◌⊎◌, ◌<◌, ◌≤◌, ◌+◌, ◌-◌, ◌*◌, ℕ, List, length, min, slice_get, slice_index, Some, None}
use Rattle.sp_word.specs.Word.{Word, Unreached, Pair}
use Rattle.sp_word.specs.History.{Table}
use Rattle.sp_paths.specs.Paths.{Graph, IsVertex, IsTree, IsFar}
use Rattle.sp_lists.specs.declared.outcomes.Outcome.{Outcome}
use Rattle.sp_lists.specs.declared.outcomes.Outcome.TheVariants.{Done, TooFar, Memory}
use Rattle.sp_lists.specs.declared.outcomes.BatchOutcome.{BatchOutcome}

-- The slices hold the distances and the predecessors.
pub record Slices : Type 0 where
  pub dist : List ℕ
  pub pred : List ℕ

-- These are the two slices together.
abbrev pub slices : (dist pred : List ℕ) → Slices
slices dist pred = record { dist = dist; pred = pred }

-- This is the number of places that both slices have.
abbrev pub places : Slices → ℕ
places s = min (length s.dist) (length s.pred)

-- ## A tree in a block

-- This is a word's distance and predecessor, or the greatest number and 0 if it is unreached.
abbrev pub IsCell : Word → (d p : ℕ) → Type 0
IsCell Unreached d p = (d ≡ 18446744073709551615) × (p ≡ 0)
IsCell (Pair e q) d p = (d ≡ e) × (p ≡ q)

-- The slices hold the words of n vertices, from the index `low` on.
abbrev pub AreCells : (low n : ℕ) → Table → Slices → Type 0
AreCells low n words s = (v : ℕ) → IsVertex n v → IsCell (words v) (slice_index s.dist (low + (v - 1))) (slice_index s.pred (low + (v - 1)))

-- The slices hold the tree from s, from the index `low` on, and no vertex is too far.
pub record HasTreeAt (max : ℕ) (g : Graph) (s low : ℕ) (there : Slices) : Type 0 where
  pub words : Table
  pub tree : IsTree g s words
  pub far : IsFar g s max None
  pub cells : AreCells low g.n words there

-- ## What isn't written

-- Both slices hold the same as before at the index k.
abbrev pub HasSameAt : (old new : Slices) → (k : ℕ) → Type 0
HasSameAt old new k = (slice_index new.dist k ≡ slice_index old.dist k) × (slice_index new.pred k ≡ slice_index old.pred k)

-- Both slices hold the same as before from the index `low` on.
abbrev pub KeepsFrom : (low : ℕ) → (old new : Slices) → Type 0
KeepsFrom low old new = (k : ℕ) → low ≤ k → HasSameAt old new k

-- Only the n places from `low` on are written.
pub record KeepsOthers (low n : ℕ) (old new : Slices) : Type 0 where
  pub below : (k : ℕ) → k < low → HasSameAt old new k
  pub beyond : KeepsFrom (low + n) old new

-- ## One source

-- The tree is written from the index `low` on, or nothing is written.
abbrev pub IsSolvedAt : (max : ℕ) → Graph → (s low : ℕ) → (old new : Slices) → Outcome → Type 0
IsSolvedAt max g s low old new Done = HasTreeAt max g s low new × KeepsOthers low g.n old new
IsSolvedAt max g s low old new (TooFar v) = IsFar g s max (Some v) × (new ≡ old)
IsSolvedAt max g s low old new Memory = new ≡ old
IsSolvedAt max g s low old new told = ⊥

-- This is why the source has no tree.
abbrev pub HasNone : (max : ℕ) → Graph → (s : ℕ) → Outcome → Type 0
HasNone max g s (TooFar v) = IsFar g s max (Some v)
HasNone max g s Memory = Unit {0}
HasNone max g s told = ⊥

-- ## Several sources

-- Each of the first sources has its tree in its block, and nothing is written after these blocks.
pub record AreDone (max : ℕ) (g : Graph) (sources : List ℕ) (done : ℕ) (old new : Slices) : Type 0 where
  pub trees : (i s : ℕ) → i < done → slice_get sources i ≡ Some s → HasTreeAt max g s (i * g.n) new
  pub rest : KeepsFrom (done * g.n) old new

-- All sources are done; or a vertex is too far from the next one; or there was no memory for the next one, or for the
-- graph.
abbrev pub EndsBy : (max : ℕ) → Graph → (sources : List ℕ) → (done : ℕ) → Outcome → Type 0
EndsBy max g sources done Done = done ≡ length sources
EndsBy max g sources done (TooFar v) = (s : ℕ) × (slice_get sources done ≡ Some s) × IsFar g s max (Some v)
EndsBy max g sources done Memory = (done < length sources) ⊎ (done ≡ 0)
EndsBy max g sources done told = ⊥

-- The first sources have their trees, and this is why no more have.
abbrev pub AreSolved : (max : ℕ) → Graph → (sources : List ℕ) → (old new : Slices) → BatchOutcome → Type 0
AreSolved max g sources old new b = AreDone max g sources b.done old new × EndsBy max g sources b.done b.told
