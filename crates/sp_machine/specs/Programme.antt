-- A programme: the words at the start, and the items of each actor.
use Rattle.std.specs.Prelude.{◌≡◌, ℕ, ◌-◌, ◌≤◌, List, [], ◌∷◌, length, replicate, slice_index_or, slice_get, slice_set, All, Option, Some}
use Rattle.sp_word.specs.Word.{Word, Unreached, IsPair}
use Rattle.sp_paths.specs.Paths.{IsVertex}
use Rattle.sp_machine.specs.declared.item.Item.{Item}
use Rattle.sp_machine.specs.declared.item.Item.TheVariants.{Offer, Read, Relax}

-- Actors are numbered from 1, as vertices are.
abbrev pub IsNumber : ℕ → ℕ → Type 0
IsNumber n v = IsVertex n v

-- These are the items of an actor; beyond the last row there are none.
abbrev pub row_of : {P : ℕ} → List (List (Item P)) → ℕ → List (Item P)
row_of rows actor = slice_index_or rows (actor - 1) []

-- This is item k of an actor, counted from 0.
abbrev pub item_of : {P : ℕ} → List (List (Item P)) → ℕ → ℕ → Option (Item P)
item_of rows actor k = slice_get (row_of rows actor) k

-- A programme gives the words at the start, and the items of each actor.
pub record Programme (P : ℕ) : Type 0 where
  -- The number of words, and the number of actors.
  pub words : ℕ
  pub actors : ℕ
  -- The vertices that have a word at the start, with that word.
  pub named : List (ℕ × Word)
  -- The items of each actor, in order.
  pub rows : List (List (Item P))

-- These are the words with those of the named vertices changed.
abbrev pub named_words : List Word → List (ℕ × Word) → List Word
named_words words [] = words
named_words words (x ∷ more) = named_words (slice_set words (x.0 - 1) x.1) more

-- These are the words at the start: the named ones, and unreached elsewhere.
abbrev pub opening_words : {P : ℕ} → Programme P → List Word
opening_words p = named_words (replicate p.words Unreached) p.named

-- The item names only these vertices, and offers only pairs.
abbrev pub IsItem : {P : ℕ} → ℕ → Item P → Type 0
IsItem n (Offer v w) = IsNumber n v × IsPair w
IsItem n (Read v) = IsNumber n v
IsItem n (Relax u v l) = IsNumber n u × IsNumber n v × (1 ≤ l)

-- The programme is within the limits, and its items name only its vertices.
pub record IsProgramme {P : ℕ} (p : Programme P) : Type 0 where
  pub words : IsNumber 65536 p.words
  pub actors : IsNumber 64 p.actors
  pub named : All (λ x. IsNumber p.words x.0) p.named
  pub rows : length p.rows ≤ p.actors
  pub items : (actor k : ℕ) (item : Item P) → item_of p.rows actor k ≡ Some item → IsItem p.words item
