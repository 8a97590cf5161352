-- A block of distances in the slice of a caller: a row for each source, with a place for each target.
use Rattle.std.specs.Prelude.{◌≡◌, ◌⊎◌, ◌<◌, ◌≤◌, ◌+◌, ◌*◌, ℕ, List, length, slice_get, slice_index, Some}
use Rattle.std.specs.declared.option.Option.TheVariants.{None}
use Rattle.sp_paths.specs.Paths.{Graph, IsPair, PairAnswer}
use Rattle.sp_paths.specs.Paths.{Found as FoundPair, TooFar as FarVertex, NoWalk as NoWay}
use Rattle.sp_answer.specs.declared.pair.PairAnswer.{PairAnswer as Found}
use Rattle.sp_answer.specs.Pair.{answer_of}
use Rattle.sp_lists.specs.declared.outcomes.Outcome.{Outcome}
use Rattle.sp_lists.specs.declared.outcomes.Outcome.TheVariants.{Done, Memory}
use Rattle.sp_lists.specs.declared.outcomes.BatchOutcome.{BatchOutcome}
use Rattle.sp_lists.specs.Limits.{reach}
use Rattle.sp_lists.specs.Query.{Query, IsGoodQuery, IsRefusedQuery}

-- ## A row

-- This is the distance of an answer; or the greatest number if no walk leads to the target, and the one before it if the target
-- has no distance up to the greatest and some vertex is too far.
abbrev pub IsDistance : PairAnswer → (d : ℕ) → Type 0
IsDistance (FoundPair e q) d = d ≡ e
IsDistance (FarVertex v) d = d ≡ 18446744073709551614
IsDistance NoWay d = d ≡ 18446744073709551615

-- This number represents the answer for t from s.
pub record HasDistance (max : ℕ) (g : Graph) (s t d : ℕ) : Type 0 where
  pub answer : PairAnswer
  pub pair : IsPair g s t max answer
  pub distance : IsDistance answer d

-- The slice holds the distances of the targets from s, from the index `low` on.
abbrev pub HasRowAt : (max : ℕ) → Graph → (s : ℕ) → (targets : List ℕ) → (low : ℕ) → List ℕ → Type 0
HasRowAt max g s targets low there = (j t : ℕ) → slice_get targets j ≡ Some t → HasDistance max g s t (slice_index there (low + j))

-- The slice holds these answers' distances, from the index `low` on.
abbrev pub ArePutAt : List Found → (low : ℕ) → List ℕ → Type 0
ArePutAt answers low there = (j : ℕ) (told : Found) → slice_get answers j ≡ Some told → IsDistance (answer_of told) (slice_index there (low + j))

-- The slice holds the same as before from the index `low` on.
abbrev pub KeepsListFrom : (low : ℕ) → (old new : List ℕ) → Type 0
KeepsListFrom low old new = (k : ℕ) → low ≤ k → slice_index new k ≡ slice_index old k

-- Only `count` places from `low` on are written.
pub record KeepsBut (low count : ℕ) (old new : List ℕ) : Type 0 where
  pub below : (k : ℕ) → k < low → slice_index new k ≡ slice_index old k
  pub beyond : KeepsListFrom (low + count) old new

-- The row is written from the index `low` on, or nothing is written.
abbrev pub IsRowIn : (max : ℕ) → Graph → (s : ℕ) → (targets : List ℕ) → (low : ℕ) → (old new : List ℕ) → Outcome → Type 0
IsRowIn max g s targets low old new Done = HasRowAt max g s targets low new × KeepsBut low (length targets) old new
IsRowIn max g s targets low old new Memory = new ≡ old
IsRowIn max g s targets low old new told = ⊥

-- ## Several rows

-- Each of the first sources has its row, and nothing is written after these rows.
pub record AreRowsDone (max : ℕ) (g : Graph) (sources targets : List ℕ) (done : ℕ) (old new : List ℕ) : Type 0 where
  pub rows : (i s : ℕ) → i < done → slice_get sources i ≡ Some s → HasRowAt max g s targets (i * length targets) new
  pub rest : KeepsListFrom (done * length targets) old new

-- All sources are done, or there was no memory for the next one.
abbrev pub EndsRowsBy : (sources : List ℕ) → (done : ℕ) → Outcome → Type 0
EndsRowsBy sources done Done = done ≡ length sources
EndsRowsBy sources done Memory = done < length sources
EndsRowsBy sources done told = ⊥

-- The first sources have their rows, and this is why no more have.
abbrev pub IsBlockIn : (max : ℕ) → Graph → (sources targets : List ℕ) → (old new : List ℕ) → BatchOutcome → Type 0
IsBlockIn max g sources targets old new b = AreRowsDone max g sources targets b.done old new × EndsRowsBy sources b.done b.told

-- ## A call

-- A call for a matrix writes a row for each source, with a place for each target.
abbrev pub matrix_query : (sources targets : List ℕ) → (delta : ℕ) → Query
matrix_query sources targets delta = record { sources = sources; targets = targets; delta = delta; limit = None; rows = length sources; columns = length targets }

-- This is the reason, no row is done, and nothing is written.
pub record IsNoRow (why : Outcome → Type 0) (old new : List ℕ) (b : BatchOutcome) : Type 0 where
  pub told : why b.told
  pub none : b.done ≡ 0
  pub same : new ≡ old

-- Something is wrong with the call; or nothing is wrong, and the rows of the sources are written, up to the first for
-- which there was no memory.
abbrev pub IsMatrixOf : Graph → (sources targets : List ℕ) → (delta : ℕ) → (old new : List ℕ) → BatchOutcome → Type 0
IsMatrixOf g sources targets delta old new b = IsNoRow (IsRefusedQuery g.n (matrix_query sources targets delta) (length old)) old new b ⊎ (IsGoodQuery g.n (matrix_query sources targets delta) (length old) × IsBlockIn (reach g.n) g sources targets old new b)
