-- Where rows end, as a text spells it.
use Rattle.std.specs.Prelude.{◌≡◌, ℕ, ◌+◌, ◌-◌, ◌<◌, ◌≤◌, List, ◌∷◌, length, slice_index, Option}
use Rattle.std.specs.Io.KnownBytes.{Consumes}
use Rattle.sp_packed.specs.declared.word_sums.Sum.{Sum}
use Rattle.sp_packed.specs.Words.{words, sum_on}

-- The end is no less than the one before, and at most m.
abbrev pub IsRise : (m : ℕ) → (ends : List ℕ) → (k : ℕ) → Type 0
IsRise m ends k = (slice_index ends (k - 1) ≤ slice_index ends k) × (slice_index ends k ≤ m)

-- The ends begin with 0, and rise.
pub record AreRising (m : ℕ) (ends : List ℕ) : Type 0 where
  pub begin : slice_index ends 0 ≡ 0
  pub rise : (k : ℕ) → 1 ≤ k → k < length ends → IsRise m ends k

-- These are the ends of the rows 0 to n of m arcs.
pub record AreEnds (n m : ℕ) (ends : List ℕ) : Type 0 where
  pub size : length ends ≡ n + 1
  pub rising : AreRising m ends
  pub last : slice_index ends n ≡ m

-- These are the first of such ends.
pub record AreFirstEnds (n m : ℕ) (ends : List ℕ) : Type 0 where
  pub few : length ends ≤ n + 1
  pub rising : AreRising m ends
  pub last : length ends ≡ n + 1 → slice_index ends n ≡ m

-- The text spelled these ends, except for the 0.
pub record HasEnds (old new : Option (List ℕ)) (before after : Sum) (ends : List ℕ) : Type 0 where
  pub came : List ℕ
  pub is : ends ≡ 0 ∷ came
  pub took : Consumes old new (words came)
  pub sum : after ≡ sum_on before came
