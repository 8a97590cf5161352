-- The width of a bucket as a command line gives it.
use Rattle.std.specs.Prelude.{◌≡◌, ◌≤◌, ℕ, List, codes}
use Rattle.sp_word.specs.Ranges.{IsWidth}
use Rattle.sp_jobs.specs.declared.settings.BucketWidth.{BucketWidth}
use Rattle.sp_jobs.specs.declared.settings.BucketWidth.TheVariants as bucket
use Rattle.sp_options.specs.declared.width.TheConstants.{MAX_DELTA}
use Rattle.sp_options.specs.declared.width.Width.{Width}
use Rattle.sp_options.specs.declared.width.Width.TheVariants.{Number, MeanLength}
use Rattle.sp_options.specs.Numbers.{SpellsNumber}

-- what runs are given for it
abbrev pub bucket_of : {P : ℕ} → Width → BucketWidth P
bucket_of (Number width) = bucket.Of width
bucket_of MeanLength = bucket.MeanLength

-- words with P bits of predecessor have such a distance, or it is the mean length
abbrev pub IsBucket : (P : ℕ) → Width → Type 0
IsBucket P (Number width) = IsWidth P width
IsBucket P MeanLength = Unit {0}

-- The word spells this width: a number from 1 to the greatest distance of any word, or `mean`.
abbrev pub SpellsWidth : (word : List ℕ) → Width → Type 0
SpellsWidth word (Number width) = SpellsNumber word width × (1 ≤ width) × (width ≤ MAX_DELTA)
SpellsWidth word MeanLength = word ≡ codes "mean"
