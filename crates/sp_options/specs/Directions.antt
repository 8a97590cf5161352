-- The direction that a command line asks for.
use Rattle.std.specs.Prelude.{◌≡◌, Bool, true, false, List, [], ◌∷◌, codes}
use Rattle.clap.specs.Walk.{Rule}
use Rattle.clap.specs.declared.parser.matches.Found.{Found}
use Rattle.sp_network.specs.declared.directions.Direction.{Direction}
use Rattle.sp_network.specs.declared.directions.Direction.TheVariants.{AsGiven, Towards, BothWays}
use Rattle.sp_command.specs.Rules.{flag_rule}
use Rattle.sp_options.specs.Numbers.{IsFlag}

-- The flag that stands with no other one.
abbrev pub towards_rule : Rule
towards_rule = record (flag_rule (codes "towards")) { is_free = false }

-- The flags, of which a command line has one at most.
abbrev pub direction_rules : List Rule
direction_rules = towards_rule ∷ flag_rule (codes "both-ways") ∷ []

-- the direction by the flags
abbrev pub direction_by : (towards both_ways : Bool) → Direction
direction_by true both_ways = Towards
direction_by false true = BothWays
direction_by false false = AsGiven

-- This is the direction.
pub record HasDirection (found : Found) (way : Direction) : Type 0 where
  pub towards : Bool
  pub both_ways : Bool
  pub has_towards : IsFlag found (codes "towards") towards
  pub has_both_ways : IsFlag found (codes "both-ways") both_ways
  pub is : way ≡ direction_by towards both_ways
