-- What `clap` reads of a command.
use Rattle.std.specs.Prelude.{◌≡◌, ℕ, true, false, List, [], ◌∷◌, ◌++◌, Some, map, codes}
use Rattle.std.specs.Borrow.{Bor}
use Rattle.clap.specs.Facts.{args_of}
use Rattle.clap.specs.Simple.{App, Shape, app_of, new_rule, new_shape, with_subcommand}
use Rattle.clap.specs.Walk.{Rule}
use Rattle.clap.specs.declared.builder.action.ArgAction.TheVariants.{SetTrue}
use Rattle.clap.specs.declared.builder.command.Command.{Command}
use Rattle.clap.specs.declared.builder.command.Command.TheViews.{out-Command}
use Rattle.clap.specs.declared.builder.value_parser.ValueParser.TheVariants as parser

-- ## Arguments

-- A file that is needed.
abbrev pub file_rule : List ℕ → Rule
file_rule name = record (new_rule name) { required = true }

-- An option without a value.
abbrev pub flag_rule : List ℕ → Rule
flag_rule name = record (new_rule name) { long = Some name; action = Some SetTrue }

-- An option with a value.
abbrev pub valued_rule : List ℕ → Rule
valued_rule name = record (new_rule name) { long = Some name; value_names = 1 }

-- The option for the file of the output.
abbrev pub output_rule : Rule
output_rule = record (valued_rule (codes "output")) { short = Some 111 }

-- The values of the option for the layout.
abbrev pub spellings : List (List ℕ)
spellings = codes "20" ∷ codes "24" ∷ codes "28" ∷ codes "32" ∷ []

-- The option for the layout, which takes one of the spellings, and the third where it isn't given.
abbrev pub IsLayoutRule : Rule → Type 0
IsLayoutRule rule = (names : Bor (List (Bor (List ℕ)))) × (map (λ name. name.now) names.now ≡ spellings)
    × (rule ≡ record (valued_rule (codes "pred-bits")) { defaults = codes "28" ∷ []; parser = Some (parser.Names names) })

-- ## Commands

-- A command of this name, with these arguments.
abbrev pub shape_with : (name : List ℕ) → List Rule → Shape
shape_with name rules = record (new_shape name) { rules = rules }

-- It is that, and has no command below it.
pub record IsBuilt (name : List ℕ) (rules : List Rule) (command : Command) : Type 0 where
  pub app : app_of command ≡ record { top = shape_with name rules; subs = [] }
  pub local : (out-Command command).has_globals ≡ false

-- A command has these arguments more.
abbrev pub AddsRules : (old : Command) → List Rule → (new : Command) → Type 0
AddsRules old more new = (name : List ℕ) (rules : List Rule) → IsBuilt name rules old → IsBuilt name (rules ++ more) new

-- ## The program

-- A command has the options for the layout and for the file of the output behind these arguments of its own.
abbrev pub IsWhole : Shape → Shape → Type 0
IsWhole own whole = (layout : Rule) × IsLayoutRule layout × (whole ≡ record own { rules = own.rules ++ layout ∷ output_rule ∷ [] })

-- The same of commands one by one.
abbrev pub AreWhole : (own whole : List Shape) → Type 0
AreWhole [] [] = Unit {0}
AreWhole [] (w ∷ whole) = ⊥
AreWhole (o ∷ own) [] = ⊥
AreWhole (o ∷ own) (w ∷ whole) = IsWhole o w × AreWhole own whole

-- A program with further commands of these shapes, in this order.
abbrev pub with_subcommands : App → List Shape → App
with_subcommands app [] = app
with_subcommands app (shape ∷ shapes) = with_subcommands (with_subcommand app shape) shapes

-- A program has these commands more.
abbrev pub AddsCommands : (old : Command) → List Shape → (new : Command) → Type 0
AddsCommands old own new = (whole : List Shape) × AreWhole own whole × (app_of new ≡ with_subcommands (app_of old) whole)
