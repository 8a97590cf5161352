-- What a field is, read as a number within a range.
use Rattle.std.specs.Prelude.{◌≡◌, ◌<◌, ◌≤◌, ◌-◌, ◌^◌, min, length, take, slice_index, ℕ, Bool, true, false, ◌&&◌, not, List, [], ◌∷◌, ◌++◌, codes, decimal, map, nat_le, ◌==◌, if◌then◌else◌}
use Rattle.sp_text.specs.declared.numbers.Numeral.{Numeral}
use Rattle.sp_text.specs.declared.numbers.Numeral.TheVariants.{Bad, Out, Value}
use Rattle.std.specs.List.{list_all, take_while}
use Rattle.std.specs.Char.{is_ascii_digit}
use Rattle.std.specs.Simd.Lanes.{mask_l}
use Rattle.sp_text.specs.Lines.{is_blank, is_number, value}

-- This number is within the range, or out of it.
abbrev pub numeral_within : ℕ → ℕ → ℕ → Numeral
numeral_within n least most = if nat_le least n && nat_le n most then Value n else Out

-- This is what a field is, read as a number within a range.
abbrev pub numeral : List ℕ → ℕ → ℕ → Numeral
numeral field least most = if is_number field then numeral_within (value field) least most else Bad

-- This is a number as 64 bits can hold it: 2^64 - 1 stands for every number that is too large.
abbrev pub capped_value : ℕ → ℕ
capped_value n = min n (2 ^ 64 - 1)

-- These are all the digits at the front of a text.
abbrev pub leading_digits : List ℕ → List ℕ
leading_digits text = take_while is_ascii_digit text

-- These digits spell no number.
abbrev pub HasNoLead : List ℕ → Type 0
HasNoLead text = is_number (leading_digits text) ≡ false

-- The first `end` bytes are the digits at the front, and they spell this number, as 64 bits can hold it.
pub record Leads (text : List ℕ) (n end : ℕ) : Type 0 where
  pub spelled : is_number (leading_digits text) ≡ true
  pub number : n ≡ capped_value (value (leading_digits text))
  pub digits : leading_digits text ≡ take end text
  pub within : end ≤ length text

-- There is a byte, and no leading zero is followed by others.
abbrev pub starts_number : List ℕ → Bool
starts_number [] = false
starts_number (d ∷ []) = true
starts_number (d ∷ e ∷ more) = not (d == 48)

-- The first byte is a digit other than zero.
abbrev pub begins_number : List ℕ → Bool
begins_number [] = false
begins_number (d ∷ more) = not (d == 48) && is_ascii_digit d

-- There are digits at the front, and they spell a number.
pub record AreDigits (text : List ℕ) (n end : ℕ) : Type 0 where
  pub small : n < 2 ^ 64
  pub some : 0 < end
  pub within : end ≤ length text
  pub digits : list_all is_ascii_digit (take end text) ≡ true
  pub number : n ≡ value (take end text)
  pub behind : end < length text → is_ascii_digit (slice_index text end) ≡ false

-- The digits at the front spell a small number without a leading zero.
pub record IsFront (text : List ℕ) (n end : ℕ) : Type 0 where
  pub small : n < 2 ^ 64
  pub within : end ≤ length text
  pub digits : list_all is_ascii_digit (take end text) ≡ true
  pub number : n ≡ value (take end text)
  pub behind : end < length text → is_ascii_digit (slice_index text end) ≡ false
  pub starts : starts_number (take end text) ≡ true

-- This has a bit for each byte, the lowest for the first: 1 where the byte is no digit.
abbrev pub others : List ℕ → ℕ
others bytes = mask_l (map (λ b. not (is_ascii_digit b)) bytes)

-- The digits at the front spell a small number, and a blank or the end follows them.
pub record IsQuick (text : List ℕ) (n end : ℕ) : Type 0 where
  pub within : end ≤ length text
  pub digits : list_all is_ascii_digit (take end text) ≡ true
  pub number : n ≡ value (take end text)
  pub behind : end < length text → is_blank (slice_index text end) ≡ true

-- This is a space and a number.
abbrev pub number_text : ℕ → List ℕ
number_text n = codes " " ++ decimal n
