-- What the lines of a replay file say.
use Rattle.std.specs.Prelude.{◌≡◌, ◌≤◌, ℕ, Bool, List, [], ◌∷◌, ◌==◌, length, slice_index, if◌then◌else◌}
use Rattle.std.specs.List.{flat_map}
use Rattle.sp_word.specs.Word.{Word, Pair}
use Rattle.sp_machine.specs.declared.item.Item.{Item}
use Rattle.sp_machine.specs.declared.item.Item.TheVariants.{Offer, Read, Relax}
use Rattle.sp_machine.specs.Programme.{Programme, IsNumber, row_of}
use Rattle.sp_text.specs.Text.{ItemLine as Line, is_named}

-- This is the number of a line at this index.
abbrev pub number : ℕ → Line → ℕ
number place line = slice_index line.numbers place

-- The index of a line's form is 0 for `i`, 1 for `o`, 2 for `r`, 3 for `a` and 4 for `s`.

-- A line `i V D P` gives V the word (D, P) at the start.
abbrev pub named_by : Line → List (ℕ × Word)
named_by line = if line.kind == 0 then (number 0 line, Pair (number 1 line) (number 2 line)) ∷ [] else []

-- A line `o A V D P` asks for the offer of (D, P) to V.
abbrev pub offer_of : {P : ℕ} → List ℕ → Item P
offer_of ns = Offer (slice_index ns 1) (Pair (slice_index ns 2) (slice_index ns 3))

-- This is the item that a line gives an actor, by the index of its form and its numbers: `o A V D P`, `r A V` or `a A U
-- V L`.
abbrev pub items_of_form : {P : ℕ} → (place : ℕ) → List ℕ → List (Item P)
items_of_form place ns =
    if place == 1 then offer_of ns ∷ []
    else (if place == 2 then Read (slice_index ns 1) ∷ []
    else (if place == 3 then Relax (slice_index ns 1) (slice_index ns 2) (slice_index ns 3) ∷ [] else []))

-- This is the item that a line gives actor A.
abbrev pub item_for : {P : ℕ} → (actor : ℕ) → Line → List (Item P)
item_for actor line = if number 0 line == actor then items_of_form line.kind line.numbers else []

-- A line `s A` is a step of actor A.
abbrev pub step_by : Line → List ℕ
step_by line = if line.kind == 4 then number 0 line ∷ [] else []

-- The numbers of the problem line and the other lines give these: the words and actors, the words at the start in
-- order, the items of each actor in order, and the actors of the steps in order.
pub record IsReplay {P : ℕ} (problem : List ℕ) (lines : List Line) (plan : Programme P) (steps : List ℕ) : Type 0 where
  pub words : plan.words ≡ slice_index problem 0
  pub actors : plan.actors ≡ slice_index problem 1
  pub named : plan.named ≡ flat_map named_by lines
  pub rows : (actor : ℕ) → IsNumber plan.actors actor → row_of plan.rows actor ≡ flat_map (item_for actor) lines
  pub no_more : length plan.rows ≤ plan.actors
  pub schedule : steps ≡ flat_map step_by lines

-- These parts were kept of the lines so far; `has` knows the vertices that have a word at the start.
pub record AreKept {P : ℕ} (lines : List Line) (has : ℕ → Bool) (given : List (ℕ × Word)) (lists : List (List (Item P))) (steps : List ℕ) : Type 0 where
  pub known : (vertex : ℕ) → has vertex ≡ is_named 0 vertex lines
  pub named : given ≡ flat_map named_by lines
  pub rows : (actor : ℕ) → 1 ≤ actor → row_of lists actor ≡ flat_map (item_for actor) lines
  pub schedule : steps ≡ flat_map step_by lines
