-- The distance within which answers are wanted, as a command line gives it.
use Rattle.std.specs.Prelude.{◌≡◌, ◌≤◌, ℕ, List, Option, Some, None, IfSome, codes}
use Rattle.clap.specs.Matches.{first_value}
use Rattle.clap.specs.declared.parser.matches.Found.{Found}
use Rattle.sp_word.specs.Word.{max_dist}
use Rattle.sp_options.specs.declared.within.TheConstants.{MAX_LIMIT}
use Rattle.sp_options.specs.Numbers.{SpellsNumber}

-- The word spells this limit: a number from 0 to the greatest distance of any word.
abbrev pub SpellsLimit : (word : List ℕ) → (limit : ℕ) → Type 0
SpellsLimit word limit = SpellsNumber word limit × (limit ≤ MAX_LIMIT)

-- This is the limit of a command line: what its word spells, or none where it has no word.
abbrev pub HasLimit : Found → Option ℕ → Type 0
HasLimit found None = first_value found (codes "within") ≡ None
HasLimit found (Some limit) = (word : List ℕ) × (first_value found (codes "within") ≡ Some word) × SpellsLimit word limit

-- A command line has a word for the limit that spells none.
abbrev pub LacksLimit : Found → Type 0
LacksLimit found = (word : List ℕ) × (first_value found (codes "within") ≡ Some word) × ((limit : ℕ) → SpellsLimit word limit → ⊥)

-- Words with P bits of predecessor have such a distance, or there is no limit.
abbrev pub IsLimit : (P : ℕ) → Option ℕ → Type 0
IsLimit P limit = IfSome limit (λ l. l ≤ max_dist P)
