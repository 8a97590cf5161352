-- A ring of buckets, with a map of buckets beside it.
use Rattle.std.specs.Prelude.{◌≡◌, ◌≢◌, ◌++◌, All}
use Rattle.sp_rounds.specs.Content.{BucketsContent, bucket_of}

-- These are the entries of the two together.
abbrev pub both : BucketsContent → BucketsContent → BucketsContent
both ring map = record { delta = map.delta; ring = ring.ring; entries = ring.entries ++ map.entries }

-- The entries of one bucket are all in one of the two.
pub record AreApart (ring map : BucketsContent) : Type 0 where
  pub width : ring.delta ≡ map.delta
  pub apart : All (λ e. All (λ f. bucket_of map.delta e ≢ bucket_of map.delta f) map.entries) ring.entries
