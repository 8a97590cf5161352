-- The entries of several buckets, and a map whose keys are the buckets of their entries.
use Rattle.std.specs.Prelude.{◌≡◌, ◌≢◌, ℕ, List, [], ◌∷◌, ◌++◌, All, Vec}
use Rattle.std.specs.declared.alloc.Global.{Global}
use Rattle.sp_bins.specs.declared.entry.Entry.{Entry}
use Rattle.sp_rounds.specs.Content.{bucket_of}

-- These are the entries of all the lists, one list after another.
abbrev pub all_entries : List (Vec Entry Global) → List Entry
all_entries [] = []
all_entries (bucket ∷ buckets) = bucket.items ++ all_entries buckets

-- There are entries at the key, and all of them belong to the bucket that it names.
pub record IsBucket (delta key : ℕ) (bucket : Vec Entry Global) : Type 0 where
  pub some : bucket.items ≢ []
  pub same : All (λ entry. bucket_of delta entry ≡ key) bucket.items

-- Each key of the map has entries, and all of them belong to the bucket that the key names.
abbrev pub IsFiled : ℕ → List (ℕ × Vec Entry Global) → Type 0
IsFiled delta [] = Unit {0}
IsFiled delta (b ∷ bs) = IsBucket delta b.0 b.1 × IsFiled delta bs
