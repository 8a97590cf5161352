-- The places of a file that a command line names.
use Rattle.std.specs.Prelude.{◌≤◌, ◌<◌, ◌^◌, ◌==◌, ℕ, Bool, List, Option, Some, None}
use Rattle.std.specs.List.{before_first, after_first}
use Rattle.sp_options.specs.Numbers.{SpellsNumber}

-- A byte is the dash between two numbers.
abbrev pub is_dash : ℕ → Bool
is_dash byte = byte == 45

-- The word is `A-B`, where A spells the first place and B the last.
pub record SpellsPlaces (word : List ℕ) (places : ℕ × ℕ) : Type 0 where
  pub first : SpellsNumber (before_first is_dash word) places.0
  pub last : SpellsNumber (after_first is_dash word) places.1

-- Places are counted from 1, and the last is not before the first.
pub record AreInOrder (places : ℕ × ℕ) : Type 0 where
  pub counted : 1 ≤ places.0
  pub order : places.0 ≤ places.1
  pub small : places.1 < 2 ^ 32

-- These are the places that the word spells; there are none where it spells no places in order.
abbrev pub ArePlacesIn : (word : List ℕ) → Option (ℕ × ℕ) → Type 0
ArePlacesIn word None = (places : ℕ × ℕ) → SpellsPlaces word places → AreInOrder places → ⊥
ArePlacesIn word (Some places) = SpellsPlaces word places × AreInOrder places
