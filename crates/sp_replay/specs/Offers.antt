-- What an offers file says.
use Rattle.std.specs.Prelude.{◌≡◌, ◌≤◌, ℕ, Bool, List, [], ◌∷◌, ◌==◌, length, slice_index, if◌then◌else◌, Option, Result}
use Rattle.std.specs.List.{flat_map}
use Rattle.sp_text.specs.declared.faults.DimacsError.{DimacsError}
use Rattle.sp_text.specs.Text.{ItemLine as Line, Spells, judge}
use Rattle.sp_text.specs.Collecting.{SpelledBy}
use Rattle.sp_text.specs.Whole.{AllRead}
use Rattle.sp_text.specs.Formats.{ranges_of}
use Rattle.sp_machine.specs.declared.item.Item.{Item}
use Rattle.sp_machine.specs.Programme.{Programme, IsNumber, row_of}
use Rattle.sp_replay.specs.ReplayFormat.{offers}
use Rattle.sp_replay.specs.Replay.{number, offer_of}

-- This is the item that a line `o A V D P` gives this actor.
abbrev pub offer_for : {P : ℕ} → (actor : ℕ) → Line → List (Item P)
offer_for actor line = if number 0 line == actor then offer_of line.numbers ∷ [] else []

-- Each actor's items are its offers, in the order of the file.
abbrev pub HasOffers : {P : ℕ} → List (List (Item P)) → (actor : ℕ) → List Line → Type 0
HasOffers rows actor lines = row_of rows actor ≡ flat_map (offer_for actor) lines

-- The numbers of the problem line and the offers give this programme: the words and actors, no word at the start, and
-- the offers of each actor in order.
pub record IsOffers {P : ℕ} (problem : List ℕ) (lines : List Line) (plan : Programme P) : Type 0 where
  pub words : plan.words ≡ slice_index problem 0
  pub actors : plan.actors ≡ slice_index problem 1
  pub unnamed : plan.named ≡ []
  pub rows : (actor : ℕ) → IsNumber plan.actors actor → HasOffers plan.rows actor lines
  pub no_more : length plan.rows ≤ plan.actors

-- Some text without a fault spells it.
pub record IsOffersFile {P : ℕ} (plan : Programme P) : Type 0 where
  pub text : List ℕ
  pub problem : List ℕ
  pub lines : List Line
  pub spelled : Spells offers (ranges_of P) text problem lines
  pub says : IsOffers problem lines plan

-- This is the answer to the whole text of a device: what it spells, or its first fault.
abbrev pub OffersRead : {P : ℕ} → (text : List ℕ) → (left : Option (List ℕ)) → (has_failed : Bool) → Result (Programme P) DimacsError → Type 0
OffersRead {P = P} text left has_failed result = AllRead (judge offers (ranges_of P)) (SpelledBy offers IsOffers) text left has_failed result
