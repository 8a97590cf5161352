-- What a command line says of how runs are made.
use Rattle.std.specs.Prelude.{◌≡◌, ◌⊎◌, ℕ, List, Some, codes}
use Rattle.clap.specs.Matches.{first_value}
use Rattle.clap.specs.declared.parser.matches.Found.{Found}
use Rattle.sp_options.specs.declared.running.RunOptions.{RunOptions}
use Rattle.sp_options.specs.declared.width.Width.{Width}
use Rattle.sp_options.specs.Directions.{HasDirection}
use Rattle.sp_options.specs.Numbers.{IsFlag}
use Rattle.sp_options.specs.Width.{SpellsWidth}
use Rattle.sp_options.specs.Workers.{SpellsWorkers}

-- This is the number of workers.
abbrev pub HasCrew : Found → (workers : ℕ) → Type 0
HasCrew found workers = (word : List ℕ) × (first_value found (codes "workers") ≡ Some word) × SpellsWorkers word workers

-- A command line has no word for a number of workers.
abbrev pub LacksCrew : Found → Type 0
LacksCrew found = (word : List ℕ) (workers : ℕ) → first_value found (codes "workers") ≡ Some word → SpellsWorkers word workers → ⊥

-- This is the width.
abbrev pub HasWidth : Found → Width → Type 0
HasWidth found width = (word : List ℕ) × (first_value found (codes "delta") ≡ Some word) × SpellsWidth word width

-- A command line has no word for a width.
abbrev pub LacksWidth : Found → Type 0
LacksWidth found = (word : List ℕ) (width : Width) → first_value found (codes "delta") ≡ Some word → SpellsWidth word width → ⊥

-- These are the options of a command line.
pub record IsAskedFor (found : Found) (options : RunOptions) : Type 0 where
  pub width : HasWidth found options.width
  pub workers : HasCrew found options.workers
  pub direction : HasDirection found options.direction
  pub far_ok : IsFlag found (codes "far-ok") options.far_ok
  pub progress : IsFlag found (codes "progress") options.progress

-- A command line lacks a width or a number of workers.
abbrev pub LacksOptions : Found → Type 0
LacksOptions found = LacksWidth found ⊎ LacksCrew found
