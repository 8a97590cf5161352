-- The lines of a text, the fields of a line, and numbers.
use Rattle.std.specs.Prelude.{◌≡◌, ◌≢◌, ℕ, ◌+◌, ◌-◌, ◌*◌, Bool, false, ◌&&◌, ◌||◌, not, List, [], ◌∷◌, ◌++◌, length, take, slice_index, ◌==◌, if◌then◌else◌}
use Rattle.std.specs.List.{list_all}
use Rattle.std.specs.Char.{is_ascii_digit}

-- This cuts bytes into the lines whose LF came, without it, and the bytes after the last LF. `line` is put before the
-- bytes.
abbrev pub cut : List ℕ → List ℕ → List (List ℕ) × List ℕ
cut line [] = ([], line)
cut line (b ∷ bytes) = if b == 10 then (line ∷ (cut [] bytes).0, (cut [] bytes).1) else cut (line ++ b ∷ []) bytes

-- These are the lines whose LF came, without it.
unfoldable pub ended : List ℕ → List (List ℕ)
ended bytes = (cut [] bytes).0

-- These are the bytes after the last LF.
unfoldable pub rest : List ℕ → List ℕ
rest bytes = (cut [] bytes).1

-- The bytes after the last LF are a line only if there are any.
abbrev pub last_line : List ℕ → List (List ℕ)
last_line [] = []
last_line (b ∷ bytes) = (b ∷ bytes) ∷ []

-- These are all lines of a text, whether or not the last one has its LF.
unfoldable pub lines : List ℕ → List (List ℕ)
lines bytes = ended bytes ++ last_line (rest bytes)

-- The byte is a space or a tab.
abbrev pub is_blank : ℕ → Bool
is_blank b = (b == 32) || (b == 9)

-- One CR at the end of a line is dropped.
abbrev pub without_cr : List ℕ → List ℕ
without_cr line = if slice_index line (length line - 1) == 13 then take (length line - 1) line else line

-- This puts a field, if it has a byte, before other fields.
abbrev pub with_field : List ℕ → List (List ℕ) → List (List ℕ)
with_field [] fields = fields
with_field (b ∷ field) fields = (b ∷ field) ∷ fields

-- These are the fields that blanks separate. `field` is put before the bytes.
abbrev pub fields_from : List ℕ → List ℕ → List (List ℕ)
fields_from field [] = with_field field []
fields_from field (b ∷ bytes) = if is_blank b then with_field field (fields_from [] bytes) else fields_from (field ++ b ∷ []) bytes

-- These are the fields of a line.
unfoldable pub fields : List ℕ → List (List ℕ)
fields line = fields_from [] (without_cr line)

-- The bytes are `0`, or any number of decimal digits without a leading zero.
unfoldable pub is_number : List ℕ → Bool
is_number [] = false
is_number (d ∷ []) = is_ascii_digit d
is_number (d ∷ e ∷ more) = not (d == 48) && list_all is_ascii_digit (d ∷ e ∷ more)

-- This is the number that more digits spell after digits that spell `n`.
abbrev pub value_after : ℕ → List ℕ → ℕ
value_after n [] = n
value_after n (d ∷ ds) = value_after (10 * n + (d - 48)) ds

-- This is the number that decimal digits spell.
abbrev pub value : List ℕ → ℕ
value ds = value_after 0 ds

-- The first byte is neither a blank nor this one.
abbrev pub StartsOtherwise : List ℕ → ℕ → Type 0
StartsOtherwise [] byte = ⊥
StartsOtherwise (b ∷ bytes) byte = (b ≢ byte) × (is_blank b ≡ false)
