-- Numbers that are no vertices.
use Rattle.sp_jobs.specs.declared.answers.Role.{Role}
use Rattle.sp_jobs.specs.declared.answers.Role.TheVariants.{Source}
use Rattle.std.specs.Prelude.{◌≡◌, ◌<◌, ◌≤◌, ℕ, List, slice_get, Some}

-- The number at some place is above n, and every number before it is not.
pub record IsFirstAbove (n : ℕ) (numbers : List ℕ) (v : ℕ) : Type 0 where
  pub place : ℕ
  pub there : slice_get numbers place ≡ Some v
  pub above : n < v
  pub before : (k w : ℕ) → k < place → slice_get numbers k ≡ Some w → w ≤ n

-- The same of sources.
abbrev pub IsFirstSource : (n : ℕ) → (sources : List ℕ) → (s : ℕ) → Role → Type 0
IsFirstSource n sources s role = IsFirstAbove n sources s × (role ≡ Source)
