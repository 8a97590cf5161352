-- The fields of a line, and their numbers as 64 bits can hold them.
use Rattle.std.specs.Prelude.{◌≡◌, ℕ, ◌==◌, List, [], ◌∷◌, Option, Some, None, if◌then◌else◌}
use Rattle.std.specs.List.{slice_split}
use Rattle.std.specs.Borrow.{Bor}
use Rattle.sp_text.specs.Lines.{is_number, value}
use Rattle.sp_text.specs.Numeral.{capped_value}

-- Exactly one space separates fields.
abbrev pub fields : List ℕ → List (List ℕ)
fields line = slice_split (λ b. b == 32) line

-- This is the number of a field.
abbrev pub number_in : List ℕ → Option ℕ
number_in field = if is_number field then Some (capped_value (value field)) else None

-- The first field is no number.
abbrev pub HasNoNext : List (List ℕ) → Type 0
HasNoNext [] = Unit {0}
HasNoNext (field ∷ more) = number_in field ≡ None

-- The first field is this number. It is the only one, or these bytes come after the space that follows it.
abbrev pub IsNext : List (List ℕ) → ℕ × Option (Bor (List ℕ)) → Type 0
IsNext parts (n, None) = (field : List ℕ) × (parts ≡ field ∷ []) × (number_in field ≡ Some n)
IsNext parts (n, Some rest) = (field next : List ℕ) × (more : List (List ℕ)) × (parts ≡ field ∷ next ∷ more) × (fields rest.now ≡ next ∷ more) × (number_in field ≡ Some n)

-- The one field is a number.
abbrev pub last_in : List (List ℕ) → Option ℕ
last_in [] = None
last_in (field ∷ []) = number_in field
last_in (field ∷ next ∷ more) = None
