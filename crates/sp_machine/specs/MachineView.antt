-- What contracts see of a machine, and what it keeps.
use Rattle.std.specs.Prelude.{◌≡◌, ℕ, ◌+◌, ◌≤◌, true, length, Option, Some}
use Rattle.sp_word.specs.Word.{is_layout, max_dist}
use Rattle.sp_machine.specs.declared.item.Item.{Item}
use Rattle.sp_machine.specs.declared.item.Item.TheVariants.{Relax}
use Rattle.sp_machine.specs.Programme.{Programme}
use Rattle.sp_machine.specs.Step.{Machine, actor_of, item_at}
use Rattle.sp_machine.specs.declared.machine.Machine.TheInside.{Inside}

-- This is what contracts see of a machine.
abbrev pub state_of : {P : ℕ} → Inside P → Machine P
state_of m = record { rows = m.programme.now.rows; words = m.words.items; actors = m.actors.items; last = m.last }

-- The sum that a relaxation is about to offer fits a word.
abbrev pub SumFits : {P : ℕ} → Option (Item P) → (loaded : Option ℕ) → Type 0
SumFits {P = P} item loaded = (u v l d : ℕ) → item ≡ Some (Relax u v l) → loaded ≡ Some d → d + l ≤ max_dist P

-- The machine has a word for each vertex and a place for each actor, and each sum that is about to be offered fits.
pub record IsMachine {P : ℕ} (p : Programme P) (m : Machine P) : Type 0 where
  pub layout : is_layout P ≡ true
  pub few : p.words ≤ 65536
  pub words : length m.words ≡ p.words
  pub actors : length m.actors ≡ p.actors
  pub sums : (actor : ℕ) → SumFits (item_at m actor) (actor_of m actor).loaded
