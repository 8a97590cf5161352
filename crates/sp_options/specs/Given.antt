-- The numbers that a command line gives in place of a file.
use Rattle.std.specs.Prelude.{◌≡◌, ◌<◌, ◌^◌, ℕ, List, All, Option, Some, option_map}
use Rattle.clap.specs.Matches.{matched_of, typed_values}
use Rattle.clap.specs.declared.parser.matches.Found.{Found}
use Rattle.sp_jobs.specs.Places.{AreNumbered}
use Rattle.sp_options.specs.Numbers.{SpellNumbers}

-- These are the values of the option of this name, where it was given.
abbrev pub given_words : Found → (name : List ℕ) → Option (List (List ℕ))
given_words found name = option_map typed_values (matched_of found name)

-- These are the numbers that its values spell.
abbrev pub AreGiven : Found → (name : List ℕ) → List ℕ → Type 0
AreGiven found name numbers = (words : List (List ℕ)) × (given_words found name ≡ Some words) × SpellNumbers words numbers

-- Its values spell some numbers.
abbrev pub HasGiven : Found → (name : List ℕ) → Type 0
HasGiven found name = (numbers : List ℕ) × AreGiven found name numbers

-- Its values spell no list of numbers, each at least 1, and no more of them than a file may have.
abbrev pub LacksGiven : Found → (name : List ℕ) → Type 0
LacksGiven found name = (words : List (List ℕ)) (numbers : List ℕ) → given_words found name ≡ Some words → SpellNumbers words numbers → All (λ v. v < 2 ^ 32) numbers → AreNumbered numbers → ⊥
