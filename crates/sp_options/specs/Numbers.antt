-- Numbers and flags in the words of a command line.
use Rattle.std.specs.Prelude.{◌≡◌, ℕ, Bool, true, false, List, [], ◌∷◌, Some, None, codes}
use Rattle.std.specs.Str.Parse.{IsNumeral, digits_value, without_leading_plus}
use Rattle.clap.specs.Matches.{one_text}
use Rattle.clap.specs.declared.parser.matches.Found.{Found}

-- The word spells this number by decimal digits, before which a plus may stand.
abbrev pub SpellsNumber : (word : List ℕ) → ℕ → Type 0
SpellsNumber word n = IsNumeral 10 (without_leading_plus word) × (digits_value 10 (without_leading_plus word) ≡ n)

-- The words spell these numbers, in their order.
abbrev pub SpellNumbers : (words : List (List ℕ)) → List ℕ → Type 0
SpellNumbers [] [] = Unit {0}
SpellNumbers [] (n ∷ more) = ⊥
SpellNumbers (word ∷ words) [] = ⊥
SpellNumbers (word ∷ words) (n ∷ more) = SpellsNumber word n × SpellNumbers words more

-- The flag is set if the command line has it.
pub record IsFlag (found : Found) (name : List ℕ) (flag : Bool) : Type 0 where
  pub absent : one_text found name ≡ None → flag ≡ false
  pub set : one_text found name ≡ Some (codes "true") → flag ≡ true
  pub unset : one_text found name ≡ Some (codes "false") → flag ≡ false
