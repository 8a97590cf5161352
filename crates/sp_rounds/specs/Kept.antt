-- The two ways to keep entries.
use Rattle.std.specs.Prelude.{◌≡◌, None}
use Rattle.sp_rounds.specs.declared.buckets.Kept.{Kept}
use Rattle.sp_rounds.specs.declared.buckets.Kept.TheVariants.{Map, Ring}
use Rattle.sp_rounds.specs.Content.{BucketsContent}

-- This is what contracts see of the entries, in whichever way they are kept.
abbrev pub kept_content : Kept → BucketsContent
kept_content (Map map) = map
kept_content (Ring ring) = ring

-- A map alone has no ring.
abbrev pub IsKept : Kept → Type 0
IsKept (Map map) = map.ring ≡ None
IsKept (Ring ring) = Unit {0}
