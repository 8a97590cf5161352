-- The ranges of the numbers that a run takes.
use Rattle.std.specs.Prelude.{ℕ, ◌≤◌}
use Rattle.sp_word.specs.declared.workers.TheConstants.{MOST_WORKERS}
use Rattle.sp_word.specs.Word.{max_dist}

-- The width of a bucket is from 1 to the greatest distance.
abbrev pub IsWidth : (P : ℕ) → (width : ℕ) → Type 0
IsWidth P width = (1 ≤ width) × (width ≤ max_dist P)

-- The number of workers is from 1 to 64.
abbrev pub IsCrew : (workers : ℕ) → Type 0
IsCrew workers = (1 ≤ workers) × (workers ≤ MOST_WORKERS)
