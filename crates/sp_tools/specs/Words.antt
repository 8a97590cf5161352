-- What a command line says of `check`, `pack`, `replay` and `offers`.
use Rattle.std.specs.Prelude.{◌≡◌, ◌⊎◌, ℕ, List, [], ◌∷◌, ◌++◌, Some, None, codes}
use Rattle.clap.specs.Matches.{first_value}
use Rattle.clap.specs.Walk.{Rule}
use Rattle.clap.specs.declared.parser.matches.Found.{Found}
use Rattle.sp_command.specs.Rules.{file_rule, flag_rule}
use Rattle.sp_options.specs.Numbers.{IsFlag}
use Rattle.sp_options.specs.Directions.{HasDirection, direction_rules}
use Rattle.sp_options.specs.Rules.{within_rule, workers_rule}
use Rattle.sp_options.specs.Running.{HasCrew, LacksCrew}
use Rattle.sp_options.specs.Within.{HasLimit, LacksLimit}
use Rattle.sp_tools.specs.declared.check.CheckCommand.{CheckCommand}
use Rattle.sp_tools.specs.declared.pack.PackCommand.{PackCommand}
use Rattle.sp_tools.specs.declared.replay.ReplayCommand.{ReplayCommand}
use Rattle.sp_tools.specs.declared.offers.OffersCommand.{OffersCommand}

-- A command line has no value for this name.
abbrev pub LacksValue : Found → (name : List ℕ) → Type 0
LacksValue found name = first_value found name ≡ None

-- ## check

-- The arguments of `check`.
abbrev pub check_rules : List Rule
check_rules = file_rule (codes "GR") ∷ file_rule (codes "TREE") ∷ (direction_rules ++ flag_rule (codes "all") ∷ within_rule ∷ [])

-- A command line gives these arguments of `check`.
pub record IsCheck (found : Found) (command : CheckCommand) : Type 0 where
  pub graph : first_value found (codes "GR") ≡ Some command.graph.now
  pub tree : first_value found (codes "TREE") ≡ Some command.tree.now
  pub direction : HasDirection found command.direction
  pub all : IsFlag found (codes "all") command.all
  pub within : HasLimit found command.within.limit

-- A command line lacks something that `check` needs.
abbrev pub LacksCheck : Found → Type 0
LacksCheck found = LacksValue found (codes "GR") ⊎ (LacksValue found (codes "TREE") ⊎ LacksLimit found)

-- ## pack

-- The arguments of `pack`.
abbrev pub pack_rules : List Rule
pack_rules = file_rule (codes "GR") ∷ (direction_rules ++ workers_rule ∷ flag_rule (codes "progress") ∷ [])

-- A command line gives these arguments of `pack`.
pub record IsPack (found : Found) (command : PackCommand) : Type 0 where
  pub graph : first_value found (codes "GR") ≡ Some command.graph.now
  pub direction : HasDirection found command.direction
  pub workers : HasCrew found command.workers
  pub progress : IsFlag found (codes "progress") command.progress

-- A command line lacks something that `pack` needs.
abbrev pub LacksPack : Found → Type 0
LacksPack found = LacksValue found (codes "GR") ⊎ LacksCrew found

-- ## replay

-- The arguments of `replay`.
abbrev pub replay_rules : List Rule
replay_rules = file_rule (codes "FILE") ∷ flag_rule (codes "svg") ∷ []

-- A command line gives these arguments of `replay`.
pub record IsReplay (found : Found) (command : ReplayCommand) : Type 0 where
  pub file : first_value found (codes "FILE") ≡ Some command.file.now
  pub svg : IsFlag found (codes "svg") command.svg

-- ## offers

-- The arguments of `offers`.
abbrev pub offers_rules : List Rule
offers_rules = file_rule (codes "FILE") ∷ []

-- A command line gives these arguments of `offers`.
pub record IsOffers (found : Found) (command : OffersCommand) : Type 0 where
  pub file : first_value found (codes "FILE") ≡ Some command.file.now

-- `replay` and `offers` lack their file.
abbrev pub LacksFile : Found → Type 0
LacksFile found = LacksValue found (codes "FILE")
