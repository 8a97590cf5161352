-- What `clap` reads of the options of commands that run from sources.
use Rattle.std.specs.Prelude.{ℕ, List, [], ◌∷◌, ◌++◌, false, true, Some, pos, codes}
use Rattle.clap.specs.Simple.{new_rule}
use Rattle.clap.specs.Walk.{Rule}
use Rattle.clap.specs.declared.builder.action.ArgAction.TheVariants.{Append}
use Rattle.clap.specs.declared.builder.value_parser.ValueParser.TheVariants as parser
use Rattle.sp_command.specs.Rules.{flag_rule, valued_rule}
use Rattle.sp_options.specs.Directions.{direction_rules}

-- ## How runs are made

-- The width, which must be given.
abbrev pub width_rule : Rule
width_rule = record (valued_rule (codes "delta")) { required = true }

-- The same with `mean` where it isn't given.
abbrev pub mean_rule : Rule
mean_rule = record (valued_rule (codes "delta")) { defaults = codes "mean" ∷ [] }

-- The number of workers, which is 1 by default.
abbrev pub workers_rule : Rule
workers_rule = record (valued_rule (codes "workers")) { defaults = codes "1" ∷ [] }

-- The options behind the width.
abbrev pub running_rules : List Rule
running_rules = direction_rules ++ workers_rule ∷ flag_rule (codes "far-ok") ∷ flag_rule (codes "progress") ∷ []

-- The greatest distance to report.
abbrev pub within_rule : Rule
within_rule = valued_rule (codes "within")

-- ## Lists

-- The option of this name that gives a source or a target, from 1 to the greatest predecessor of any word, as often as wanted.
abbrev pub given_rule : (name : List ℕ) → Rule
given_rule name = record (valued_rule name) { action = Some Append; parser = Some (parser.Signed (pos 1) (pos 4294967294)) }

-- The places of a file, which stand with no source.
abbrev pub places_rule : Rule
places_rule = record (valued_rule (codes "sources")) { is_free = false }

-- A file of a list that is needed where no numbers are given in its place.
abbrev pub file_unless_given : List ℕ → Rule
file_unless_given name = record (new_rule name) { is_free = false }

-- The file of sources, sources by their numbers, and places in the file.
abbrev pub sources_rules : List Rule
sources_rules = file_unless_given (codes "SS") ∷ given_rule (codes "source") ∷ places_rule ∷ []

-- The lists of a matrix.
abbrev pub lists_rules : List Rule
lists_rules = record (file_unless_given (codes "SS")) { value_names = 1 } ∷ file_unless_given (codes "TARGETS") ∷ given_rule (codes "source") ∷ given_rule (codes "target") ∷ places_rule ∷ []
