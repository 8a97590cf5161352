-- The forest of several sources, in the three slices of a caller.
use Rattle.std.specs.Prelude.{◌≡◌, ◌⊎◌, ◌≤◌, ◌-◌, ℕ, List, [], length, min, slice_index}
use Rattle.std.specs.declared.option.Option.{Option}
use Rattle.std.specs.declared.option.Option.TheVariants.{None, Some}
use Rattle.sp_word.specs.Word.{Word, Unreached, Pair, max_dist}
use Rattle.sp_word.specs.History.{Table}
use Rattle.sp_paths.specs.Paths.{Graph, IsVertex, word_at}
use Rattle.sp_paths.specs.Forests.{IsFar}
use Rattle.sp_answer.specs.ForestTable.{ForestTable, table_of, root_of}
use Rattle.sp_answer.specs.Rooted.{root_at}
use Rattle.sp_answer.specs.Nearest.{IsForestUpTo, IsRootAt}
use Rattle.sp_lists.specs.declared.outcomes.Outcome.{Outcome}
use Rattle.sp_lists.specs.declared.outcomes.Outcome.TheVariants.{Done, TooFar, Memory}
use Rattle.sp_lists.specs.Limits.{pred_bits}
use Rattle.sp_lists.specs.Query.{Query, IsGoodQuery, IsRefusedQuery}
use Rattle.sp_lists.specs.Blocks.{slices, AreCells}

-- The slices hold the distances, the predecessors and the roots.
pub record ForestSlices : Type 0 where
  pub dist : List ℕ
  pub pred : List ℕ
  pub root : List ℕ

-- These are the three slices together.
abbrev pub lists : (dist pred root : List ℕ) → ForestSlices
lists dist pred root = record { dist = dist; pred = pred; root = root }

-- This is the number of places that all three slices have.
abbrev pub places_of : ForestSlices → ℕ
places_of l = min (min (length l.dist) (length l.pred)) (length l.root)

-- All three slices hold the same as before from the index `low` on.
abbrev pub KeepsListsFrom : (low : ℕ) → (old new : ForestSlices) → Type 0
KeepsListsFrom low old new = (k : ℕ) → low ≤ k → (slice_index new.dist k ≡ slice_index old.dist k) × (slice_index new.pred k ≡ slice_index old.pred k) × (slice_index new.root k ≡ slice_index old.root k)

-- ## A forest

-- This is the source at which the chain of predecessors of v begins, or 0 if v is unreached.
abbrev pub IsRootCell : Graph → (sources : List ℕ) → Table → (v : ℕ) → Word → (r : ℕ) → Type 0
IsRootCell g sources words v Unreached r = r ≡ 0
IsRootCell g sources words v (Pair d p) r = IsRootAt g sources words v d r

-- This number is written for the root of a word: 0 if the word is unreached.
abbrev pub IsRootPut : Word → (root : Option ℕ) → (r : ℕ) → Type 0
IsRootPut Unreached root r = r ≡ 0
IsRootPut (Pair d p) root r = (s : ℕ) → root ≡ Some s → r ≡ s

-- The slice holds the roots of the first n vertices of a table.
abbrev pub ArePutRoots : (n : ℕ) → ForestTable → (root : List ℕ) → Type 0
ArePutRoots n f root = (v : ℕ) → IsVertex n v → IsRootPut (table_of f v) (root_of f v) (slice_index root (v - 1))

-- The first n vertices have no root in the slice.
abbrev pub AreNoRoots : (n : ℕ) → (root : List ℕ) → Type 0
AreNoRoots n root = (v : ℕ) → IsVertex n v → slice_index root (v - 1) ≡ 0

-- The slice holds the roots of n vertices.
abbrev pub AreRootCells : Graph → (sources : List ℕ) → (n : ℕ) → Table → (root : List ℕ) → Type 0
AreRootCells g sources n words root = (v : ℕ) → IsVertex n v → IsRootCell g sources words v (words v) (slice_index root (v - 1))

-- The slice holds these roots, that of vertex v at the index v - 1.
abbrev pub HoldsRoots : (roots root : List ℕ) → Type 0
HoldsRoots roots root = (v : ℕ) → IsVertex (length roots) v → slice_index root (v - 1) ≡ root_at roots v

-- The words and the roots of n vertices: those of the forest of the sources, up to the limit if there is one.
pub record AreRooted (P : ℕ) (g : Graph) (sources : List ℕ) (limit : Option ℕ) (words : List Word) (roots : List ℕ) : Type 0 where
  pub size : length words ≡ g.n
  pub as_many : length roots ≡ g.n
  pub forest : IsForestUpTo P g sources limit (word_at words)
  pub cells : AreRootCells g sources g.n (word_at words) roots

-- The slices hold the forest of the sources, in which no vertex is too far for a word with P bits of predecessor; with a limit,
-- they hold the part of it within the limit.
pub record HasForest (P : ℕ) (g : Graph) (sources : List ℕ) (limit : Option ℕ) (there : ForestSlices) : Type 0 where
  pub words : Table
  pub forest : IsForestUpTo P g sources limit words
  pub cells : AreCells 0 g.n words (slices there.dist there.pred)
  pub roots : AreRootCells g sources g.n words there.root

-- The forest is written, and nothing else; or this vertex is too far and no limit is given, or there was no memory, and nothing
-- is written.
abbrev pub IsForestIn : (P : ℕ) → Graph → (sources : List ℕ) → (limit : Option ℕ) → (old new : ForestSlices) → Outcome → Type 0
IsForestIn P g sources limit old new Done = HasForest P g sources limit new × KeepsListsFrom g.n old new
IsForestIn P g sources limit old new (TooFar v) = (limit ≡ None) × IsFar g sources (max_dist P) (Some v) × (new ≡ old)
IsForestIn P g sources limit old new Memory = new ≡ old
IsForestIn P g sources limit old new told = ⊥

-- ## A call

-- A call for a forest writes a row of n places.
abbrev pub forest_query : (n : ℕ) → (sources : List ℕ) → (limit : Option ℕ) → (delta : ℕ) → Query
forest_query n sources limit delta = record { sources = sources; targets = []; delta = delta; limit = limit; rows = 1; columns = n }

-- Something is wrong with the call, and nothing is written; or nothing is wrong, and this is the answer.
abbrev pub IsForestOf : Graph → (sources : List ℕ) → (limit : Option ℕ) → (delta : ℕ) → (old new : ForestSlices) → Outcome → Type 0
IsForestOf g sources limit delta old new told = (IsRefusedQuery g.n (forest_query g.n sources limit delta) (places_of old) told × (new ≡ old)) ⊎ (IsGoodQuery g.n (forest_query g.n sources limit delta) (places_of old) × IsForestIn (pred_bits g.n) g sources limit old new told)
