-- Numbers as four bytes each, and the sum of a list of them.
use Rattle.std.specs.Prelude.{◌≡◌, ◌++◌, Bool, false, Option, length, ℕ, ◌+◌, ◌/◌, ◌%◌, ◌^◌, ◌<◌, ◌≤◌, List, [], ◌∷◌}
use Rattle.std.specs.Int.{w32, to_le_bytes}
use Rattle.std.specs.List.{flat_map}
use Rattle.std.specs.Io.KnownBytes.{Consumes, IsAtEnd}
use Rattle.sp_packed.specs.declared.word_sums.Sum.{Sum}

-- These are the four bytes of a number below 2^32, the lowest first.
unfoldable pub word : ℕ → List ℕ
word n = to_le_bytes w32 n

-- These are the bytes of numbers, four for each.
abbrev pub words : List ℕ → List ℕ
words numbers = flat_map word numbers

-- The first part is the sum of the numbers, the second that of all first parts on the way, both modulo 2^64.
abbrev pub step : Sum → ℕ → Sum
step s w = record { first = (s.first + w) % 2 ^ 64; second = (s.second + (s.first + w) % 2 ^ 64) % 2 ^ 64 }

-- This is a sum after more numbers are added.
unfoldable pub sum_on : Sum → List ℕ → Sum
sum_on s [] = s
sum_on s (w ∷ rest) = sum_on (step s w) rest

-- This is the sum of no numbers.
abbrev pub no_sum : Sum
no_sum = record { first = 0; second = 0 }

-- These are the words of a sum: the lower half of each part before its upper half.
unfoldable pub sum_words : Sum → List ℕ
sum_words s = s.first % 2 ^ 32 ∷ s.first / 2 ^ 32 ∷ s.second % 2 ^ 32 ∷ s.second / 2 ^ 32 ∷ []

-- What came of a text in a block: its numbers, and the sum of all numbers that came so far.
pub record Came : Type 0 where
  pub numbers : List ℕ
  pub sum : Sum

-- These numbers came of the text that was left, and a part of the next one: as many as were wanted, or fewer because the text
-- ended there or the device failed.
pub record HasCome (count : ℕ) (old : Option (List ℕ)) (numbers : List ℕ) (failed : Bool) (new : Option (List ℕ)) : Type 0 where
  pub part : List ℕ
  pub took : Consumes old new (words numbers ++ part)
  pub within : length numbers ≤ count
  pub short : length part < 4
  pub full : count ≤ length numbers → part ≡ []
  pub ended : length numbers < count → failed ≡ false → IsAtEnd new
