-- A ring of buckets: a window of as many buckets as the ring has slots, in which bucket i has slot i % len.
use Rattle.std.specs.Prelude.{◌≡◌, ℕ, suc, ◌+◌, ◌%◌, ◌<◌, ◌≤◌, List, [], ◌∷◌, All, Vec, Some, length}
use Rattle.std.specs.declared.alloc.Global.{Global}
use Rattle.sp_bins.specs.declared.entry.Entry.{Entry}
use Rattle.sp_rounds.specs.declared.ring.TheConstants.{LONGEST_RING}
use Rattle.sp_rounds.specs.Content.{BucketsContent, bucket_of}
use Rattle.sp_rounds.specs.Filed.{all_entries}

-- This is the width of a bucket, the first bucket of the window, the number of its buckets, and the entries in some
-- order.
pub record Window : Type 0 where
  pub delta : ℕ
  pub first : ℕ
  pub len : ℕ
  pub entries : List Entry

-- This is what contracts see of the entries in a window.
abbrev pub content_of : Window → BucketsContent
content_of w = record { delta = w.delta; ring = Some w.len; entries = w.entries }

-- Bucket i is one of the len buckets from the first on.
abbrev pub IsWithin : Window → ℕ → Type 0
IsWithin w i = (w.first ≤ i) × (i < w.first + w.len)

-- Each entry is in the slot of its bucket, where the first of the slots is slot j.
abbrev pub Stand : ℕ → ℕ → ℕ → List (Vec Entry Global) → Type 0
Stand delta len j [] = Unit {0}
Stand delta len j (slot ∷ slots) = All (λ entry. bucket_of delta entry % len ≡ j) slot.items × Stand delta len (suc j) slots

-- This is the window that starts at bucket `first` and has these slots.
abbrev pub window_of : ℕ → ℕ → List (Vec Entry Global) → Window
window_of delta first slots = record { delta = delta; first = first; len = length slots; entries = all_entries slots }

-- This is what a ring keeps: its width, the first bucket of its window, the slot of that bucket, and the slots.
pub record IsRing (delta first head : ℕ) (slots : List (Vec Entry Global)) : Type 0 where
  pub width : 0 < delta
  pub some : 0 < length slots
  pub short : length slots ≤ LONGEST_RING
  pub begins : head ≡ first % length slots
  pub stand : Stand delta (length slots) 0 slots
  pub within : All (λ entry. IsWithin (window_of delta first slots) (bucket_of delta entry)) (all_entries slots)
