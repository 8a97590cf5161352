-- What a command line says of `tree`, `pairs`, `matrix` and `nearest`, besides the graph and the options.
use Rattle.std.specs.Prelude.{◌≡◌, ◌⊎◌, ◌++◌, ℕ, Bool, List, ◌∷◌, Option, Some, codes}
use Rattle.clap.specs.Matches.{first_value}
use Rattle.clap.specs.Walk.{Rule}
use Rattle.clap.specs.declared.parser.matches.Found.{Found}
use Rattle.sp_command.specs.Rules.{file_rule, flag_rule}
use Rattle.sp_options.specs.declared.sources.Sources.{Sources}
use Rattle.sp_options.specs.Numbers.{IsFlag}
use Rattle.sp_options.specs.Rules.{lists_rules, mean_rule, running_rules, sources_rules, width_rule, within_rule}
use Rattle.sp_options.specs.Sources.{AreNamed, NamesNone}
use Rattle.sp_options.specs.Within.{HasLimit, LacksLimit}

-- ## Arguments

-- The arguments of `tree`.
abbrev pub tree_rules : List Rule
tree_rules = file_rule (codes "GR") ∷ (sources_rules ++ within_rule ∷ width_rule ∷ running_rules)

-- The arguments of `pairs`.
abbrev pub pairs_rules : List Rule
pairs_rules = file_rule (codes "GR") ∷ file_rule (codes "PAIRS") ∷ flag_rule (codes "routes") ∷ width_rule ∷ running_rules

-- The arguments of `matrix`.
abbrev pub matrix_rules : List Rule
matrix_rules = file_rule (codes "GR") ∷ (lists_rules ++ mean_rule ∷ running_rules)

-- The arguments of `nearest`.
abbrev pub nearest_rules : List Rule
nearest_rules = file_rule (codes "GR") ∷ (sources_rules ++ within_rule ∷ mean_rule ∷ running_rules)

-- ## Sources within a limit

-- A command line names these sources, and this limit if there is one.
abbrev pub AreNamedWithin : Found → Sources → (limit : Option ℕ) → Type 0
AreNamedWithin found sources limit = AreNamed found sources × HasLimit found limit

-- A command line names no sources, or its limit is invalid.
abbrev pub LacksSources : Found → Type 0
LacksSources found = NamesNone found ⊎ LacksLimit found

-- ## Pairs

-- A command line names this file of pairs, and asks for routes or doesn't.
pub record NamesPairs (found : Found) (path : List ℕ) (routes : Bool) : Type 0 where
  pub file : first_value found (codes "PAIRS") ≡ Some path
  pub flag : IsFlag found (codes "routes") routes
