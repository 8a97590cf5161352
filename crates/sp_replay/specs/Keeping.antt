-- What a keeper has of the lines so far.
use Rattle.std.specs.Prelude.{◌≡◌, ◌==◌, ℕ, true, List, [], ◌∷◌, ◌++◌, map, nat_eq, if◌then◌else◌}
use Rattle.std.specs.HashSet.{contains}
use Rattle.sp_text.specs.Text.{ItemLine as Line}
use Rattle.sp_word.specs.Word.{Word}
use Rattle.sp_machine.specs.Programme.{Programme}
use Rattle.sp_replay.specs.declared.keeper.Keeper.{Keeper}
use Rattle.sp_replay.specs.declared.keeper.ReplayParts.{ReplayParts}
use Rattle.sp_replay.specs.Replay.{AreKept, IsReplay}

-- The keeper has kept the parts of these lines.
abbrev pub Keeps : {P : ℕ} → Keeper P → List Line → Type 0
Keeps k lines = AreKept lines (contains nat_eq k.known) k.named.items k.rows k.steps.items

-- One more vertex is known, and it has this word at the start.
abbrev pub IsNamed : {P : ℕ} → Keeper P → (vertex : ℕ) → Word → Keeper P → Type 0
IsNamed old vertex word new =
    ((other : ℕ) → contains nat_eq new.known other ≡ (if vertex == other then true else contains nat_eq old.known other))
    × (new.named.items ≡ old.named.items ++ (vertex, word) ∷ [])

-- These are the parts as a programme.
abbrev pub plan_of : {P : ℕ} → ReplayParts P → Programme P
plan_of parts = record { words = parts.words; actors = parts.actors; named = parts.named.items; rows = map (λ row. row.items) parts.rows.items }

-- The problem line and the other lines give these parts.
abbrev pub Says : {P : ℕ} → List ℕ → List Line → ReplayParts P → Type 0
Says problem lines parts = IsReplay problem lines (plan_of parts) parts.steps.items
