-- The number of workers as a command line gives it.
use Rattle.std.specs.Prelude.{◌≡◌, ◌⊎◌, ℕ, List, codes}
use Rattle.sp_word.specs.declared.workers.TheConstants.{MOST_WORKERS}
use Rattle.sp_word.specs.Ranges.{IsCrew}
use Rattle.sp_options.specs.Numbers.{SpellsNumber}

-- The word spells this number of workers: a number from 1 to 64, or by `all` the greatest of them.
abbrev pub SpellsWorkers : (word : List ℕ) → (workers : ℕ) → Type 0
SpellsWorkers word workers = (SpellsNumber word workers × IsCrew workers) ⊎ ((word ≡ codes "all") × (workers ≡ MOST_WORKERS))
