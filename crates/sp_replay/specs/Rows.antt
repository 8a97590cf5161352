-- The items of the actors, with a row for each.
use Rattle.std.specs.Prelude.{◌≡◌, ◌==◌, ℕ, ◌≤◌, List, [], ◌∷◌, ◌++◌, map, Vec, if◌then◌else◌}
use Rattle.std.specs.declared.alloc.Global.{Global}
use Rattle.sp_machine.specs.declared.item.Item.{Item}
use Rattle.sp_machine.specs.Programme.{row_of}

-- These are the rows as lists.
abbrev pub lists_of : {P : ℕ} → Vec (Vec (Item P) Global) Global → List (List (Item P))
lists_of rows = map (λ row. row.items) rows.items

-- Each actor's row is the same.
abbrev pub HaveSameRows : {P : ℕ} → (old new : List (List (Item P))) → Type 0
HaveSameRows old new = (actor : ℕ) → row_of new actor ≡ row_of old actor

-- This item is added to the actor's row, and the others are the same.
abbrev pub AddsItem : {P : ℕ} → (old : List (List (Item P))) → (actor : ℕ) → Item P → (new : List (List (Item P))) → Type 0
AddsItem old actor item new = (other : ℕ) → 1 ≤ other → row_of new other ≡ row_of old other ++ (if actor == other then item ∷ [] else [])
