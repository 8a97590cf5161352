-- What contracts see of buckets: the entries, in no particular order, and the width of a bucket.
use Rattle.std.specs.Prelude.{◌≡◌, ◌≢◌, ℕ, ◌+◌, ◌/◌, ◌≤◌, List, [], ◌∷◌, ◌++◌, All, Any, Option, Some, None, IsPermutation, if◌then◌else◌, nat_le}
use Rattle.std.specs.Int.{div_ceil}
use Rattle.sp_bins.specs.declared.entry.Entry.{Entry}
use Rattle.sp_rounds.specs.declared.ring.TheConstants.{LONGEST_RING}

-- Bucket i has the distances from i * delta up to, not including, (i + 1) * delta.
abbrev pub bucket_of : ℕ → Entry → ℕ
bucket_of delta entry = entry.dist / delta

-- Some entry belongs to bucket i.
abbrev pub HasEntryIn : (delta : ℕ) → List Entry → (i : ℕ) → Type 0
HasEntryIn delta entries i = Any (λ entry. bucket_of delta entry ≡ i) entries

-- No entry belongs to bucket i.
abbrev pub HasNoEntryIn : (delta : ℕ) → List Entry → (i : ℕ) → Type 0
HasNoEntryIn delta entries i = All (λ entry. bucket_of delta entry ≢ i) entries

-- This is the width of a bucket, the length of the ring, if there is one, and the entries in some order.
pub record BucketsContent : Type 0 where
  pub delta : ℕ
  pub ring : Option ℕ
  pub entries : List Entry

-- The buckets are empty.
abbrev pub no_entries : ℕ → Option ℕ → BucketsContent
no_entries delta ring = record { delta = delta; ring = ring; entries = [] }

-- While bucket i is the lowest, an entry that is queued from it lies at most ceil(longest / delta) buckets higher, so a
-- ring of one bucket more holds all entries. A ring that would be too long isn't made.
abbrev pub ring_for : ℕ → ℕ → Option ℕ
ring_for delta longest = let len : ℕ = div_ceil longest delta + 1 in if nat_le len LONGEST_RING then Some len else None

-- One entry is added, and nothing else changes.
pub record Puts (entry : Entry) (old new : BucketsContent) : Type 0 where
  pub delta : new.delta ≡ old.delta
  pub ring : new.ring ≡ old.ring
  pub entries : IsPermutation (entry ∷ old.entries) new.entries

-- Exactly the entries of bucket i are removed.
pub record Takes (i : ℕ) (taken : List Entry) (old new : BucketsContent) : Type 0 where
  pub delta : new.delta ≡ old.delta
  pub ring : new.ring ≡ old.ring
  pub entries : IsPermutation old.entries (taken ++ new.entries)
  pub taken_of_bucket : All (λ entry. bucket_of old.delta entry ≡ i) taken
  pub left_of_others : All (λ entry. bucket_of old.delta entry ≢ i) new.entries

-- Bucket i has an entry, and no lower bucket has one.
pub record IsLowest (content : BucketsContent) (i : ℕ) : Type 0 where
  pub here : Any (λ entry. bucket_of content.delta entry ≡ i) content.entries
  pub none_lower : All (λ entry. i ≤ bucket_of content.delta entry) content.entries
