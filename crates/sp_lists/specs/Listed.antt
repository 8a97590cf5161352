-- The part of a tree within a distance, listed in the three slices of a caller.
use Rattle.std.specs.Prelude.{◌≡◌, ◌⊎◌, ◌<◌, ◌≤◌, ℕ, List, [], ◌∷◌, length, min, slice_get, slice_index, Some}
use Rattle.sp_word.specs.Word.{Word}
use Rattle.sp_paths.specs.Paths.{Graph}
use Rattle.sp_answer.specs.Table.{TreeTable, AreRows}
use Rattle.sp_answer.specs.Within.{IsTreeWithin}
use Rattle.sp_lists.specs.declared.outcomes.Outcome.TheVariants.{Done, BadSize, Memory}
use Rattle.sp_lists.specs.declared.outcomes.Outcome.{Outcome}
use Rattle.sp_lists.specs.declared.outcomes.ListingOutcome.{ListingOutcome}
use Rattle.sp_lists.specs.Limits.{reach}
use Rattle.sp_lists.specs.Query.{Query, IsGoodQuery, IsRefusedQuery}
use Rattle.sp_lists.specs.Blocks.{IsCell}

-- The slices hold vertices, and the distance and the predecessor of each.
pub record ListingSlices : Type 0 where
  pub vertex : List ℕ
  pub dist : List ℕ
  pub pred : List ℕ

-- These are the three slices together.
abbrev pub listing : (vertex dist pred : List ℕ) → ListingSlices
listing vertex dist pred = record { vertex = vertex; dist = dist; pred = pred }

-- This is the number of places that all three slices have.
abbrev pub places_in : ListingSlices → ℕ
places_in l = min (min (length l.vertex) (length l.dist)) (length l.pred)

-- The slices hold the rows, from the front on.
abbrev pub HasRows : List (ℕ × Word) → ListingSlices → Type 0
HasRows rows l = (k : ℕ) (row : ℕ × Word) → slice_get rows k ≡ Some row → (slice_index l.vertex k ≡ row.0) × IsCell row.1 (slice_index l.dist k) (slice_index l.pred k)

-- All three slices hold the same as before from the index `low` on.
abbrev pub KeepsListingFrom : (low : ℕ) → (old new : ListingSlices) → Type 0
KeepsListingFrom low old new = (k : ℕ) → low ≤ k → (slice_index new.vertex k ≡ slice_index old.vertex k) × (slice_index new.dist k ≡ slice_index old.dist k) × (slice_index new.pred k ≡ slice_index old.pred k)

-- ## A part

-- The part of the tree from s within the limit, with a row for each reached vertex, by rising number, and `count` rows
-- in all.
pub record IsListed (g : Graph) (s limit count : ℕ) (t : TreeTable) : Type 0 where
  pub part : IsTreeWithin g s limit t
  pub rising : AreRows (reach g.n) g.n 0 t.rows
  pub size : count ≡ length t.rows

-- The part is listed, and nothing else is written; or it has more vertices than there are places, or there was no memory, and
-- nothing is written.
abbrev pub IsListBy : Graph → (s limit count : ℕ) → (old new : ListingSlices) → Outcome → Type 0
IsListBy g s limit count old new Done = (t : TreeTable) × IsListed g s limit count t × HasRows t.rows new × KeepsListingFrom count old new
IsListBy g s limit count old new BadSize = (t : TreeTable) × IsListed g s limit count t × (places_in old < count) × (new ≡ old)
IsListBy g s limit count old new Memory = (count ≡ 0) × (new ≡ old)
IsListBy g s limit count old new told = ⊥

-- This is the answer to a call that lists the part, with the number of vertices.
abbrev pub IsListIn : Graph → (s limit : ℕ) → (old new : ListingSlices) → ListingOutcome → Type 0
IsListIn g s limit old new l = IsListBy g s limit l.count old new l.told

-- A call for a list names a source and a limit. The number of places that it needs is known only after the search.
abbrev pub list_query : (s limit delta : ℕ) → Query
list_query s limit delta = record { sources = s ∷ []; targets = []; delta = delta; limit = Some limit; rows = 0; columns = 0 }

-- Something is wrong with the call, and nothing is written; or nothing is wrong, and this is the answer.
abbrev pub IsListOf : Graph → (s limit delta : ℕ) → (old new : ListingSlices) → ListingOutcome → Type 0
IsListOf g s limit delta old new l = (IsRefusedQuery g.n (list_query s limit delta) 0 l.told × (l.count ≡ 0) × (new ≡ old)) ⊎ (IsGoodQuery g.n (list_query s limit delta) 0 × IsListIn g s limit old new l)
