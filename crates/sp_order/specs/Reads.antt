-- What the words of a command line say.
use Rattle.std.specs.Prelude.{◌≡◌, ◌⊎◌, ℕ, true, List, [], Option, Some, None, codes, option_map}
use Rattle.clap.specs.Faults.{fault_of, is_simple_and_free}
use Rattle.clap.specs.Kinds.{HasKind}
use Rattle.clap.specs.Matches.{first_value, one_text}
use Rattle.clap.specs.Simple.{App, Shape, is_simple, new_shape, subcommand_of, subcommand_rows_of}
use Rattle.clap.specs.Takes.{takes}
use Rattle.clap.specs.Values.{kind_of}
use Rattle.clap.specs.Walk.{rows_of}
use Rattle.clap.specs.declared.error.Error.{Error}
use Rattle.clap.specs.declared.error.kind.ErrorKind.TheVariants.{OutOfMemory}
use Rattle.clap.specs.declared.parser.matches.ArgMatches.{ArgMatches}
use Rattle.clap.specs.declared.parser.matches.Found.{Found}
use Rattle.sp_command.specs.declared.command.Commands.{Ghosts as Speaking}
use Rattle.sp_command.specs.declared.faults.Fault.{Fault}
use Rattle.sp_command.specs.declared.faults.Fault.TheVariants as fault
use Rattle.sp_command.specs.declared.layout.PredBits.{PredBits}
use Rattle.sp_command.specs.Rules.{AreWhole, with_subcommands}
use Rattle.sp_command.specs.Words.{spelling_of}
use Rattle.sp_order.specs.declared.order.Order.{Order}
use Rattle.sp_order.specs.declared.order.Order.TheVariants.{Show, Run}
use Rattle.sp_order.specs.Words.{NamesOutput, NamesNoOutput, is_text}

-- ## What is read of what `clap` has found

-- The value of `--pred-bits` spells this layout.
abbrev pub IsLayout : Found → PredBits → Type 0
IsLayout found bits = one_text found (codes "pred-bits") ≡ Some (spelling_of bits)

-- It spells none.
abbrev pub LacksLayout : Found → Type 0
LacksLayout found = (bits : PredBits) → IsLayout found bits → ⊥

-- The output goes to the file of this path, or to standard output.
abbrev pub GoesTo : Found → Option (List ℕ) → Type 0
GoesTo found None = NamesNoOutput found
GoesTo found (Some path) = NamesOutput found path

-- The order to run a command is the one that is read of a command's name and of what `clap` has found in its words.
abbrev pub IsRunOf : {Command Text : Type 0} → Speaking Command → (name : List ℕ) → Found → Order Command Text → Type 0
IsRunOf speaking name found (Show text) = ⊥
IsRunOf speaking name found (Run command bits output places) = speaking.named name found command × IsLayout found bits
    × GoesTo found (option_map (λ path. path.now) output) × (option_map (λ word. word.now) places ≡ first_value found (codes "sources"))

-- ## What `clap` finds in words

-- The matches name a command, and have this of its words.
abbrev pub HasFound : ArgMatches → (name : List ℕ) → Found → Type 0
HasFound matches name found = subcommand_rows_of matches ≡ Some (name, rows_of found)

-- An order is read of the matches.
abbrev pub IsOrderIn : {Command Text : Type 0} → Speaking Command → ArgMatches → Order Command Text → Type 0
IsOrderIn speaking matches order = (name : List ℕ) × (found : Found) × HasFound matches name found × IsRunOf speaking name found order

-- The matches name no command, or one of which something is lacking, or spell no layout.
abbrev pub LacksOrder : {Command : Type 0} → Speaking Command → ArgMatches → Type 0
LacksOrder speaking matches = (subcommand_rows_of matches ≡ None)
    ⊎ ((name : List ℕ) × (found : Found) × HasFound matches name found × (speaking.unnamed name found ⊎ (speaking.lacking name found ⊎ LacksLayout found)))

-- The program as `clap` reads it, without its commands.
abbrev pub bare_app : App
bare_app = record { top = record (new_shape (codes "spt")) { has_version = true; subcommand_required = true; arg_required_else_help = true }; subs = [] }

-- The same with these commands.
abbrev pub IsProgram : List Shape → App → Type 0
IsProgram shapes app = (whole : List Shape) × AreWhole shapes whole × (app ≡ with_subcommands bare_app whole)

-- `clap` finds this in the words: the name of a command, and the rows of what stands behind it.
abbrev pub IsFoundIn : App → (words : List (List ℕ)) → ArgMatches → Type 0
IsFoundIn app words matches = is_simple app ≡ true → subcommand_rows_of matches ≡ subcommand_of app words

-- `clap` refuses the words, or answers them with a text: it doesn't take them, and its error is one of the first step that
-- fails.
pub record IsUntaken (app : App) (words : List (List ℕ)) (error : Error) : Type 0 where
  pub untaken : takes app words ≡ true → ⊥
  pub kind : is_simple_and_free app ≡ true → HasKind (fault_of app words) error

-- ## What words say

-- The words order to run a command.
abbrev pub OrdersRun : {Command Text : Type 0} → Speaking Command → (words : List (List ℕ)) → Order Command Text → Type 0
OrdersRun speaking words order = (app : App) × (matches : ArgMatches) × IsProgram speaking.shapes app × IsFoundIn app words matches × IsOrderIn speaking matches order

-- The same of an order that isn't to show a text.
abbrev pub IsRunIn : {Command Text : Type 0} → Speaking Command → (words : List (List ℕ)) → Order Command Text → Type 0
IsRunIn {Command} {Text} speaking words (Show text) = ⊥
IsRunIn {Command} {Text} speaking words (Run command bits output places) = OrdersRun {Text = Text} speaking words (Run command bits output places)

-- The order is to show the text that is made of an error.
abbrev pub IsShowOf : {Command Text : Type 0} → (made : Error → Text → Type 0) → Error → Order Command Text → Type 0
IsShowOf made error (Show text) = made error text
IsShowOf made error (Run command bits output places) = ⊥

-- The words order nothing that can be run: `clap` doesn't take them, or a command lacks something.
abbrev pub OrdersNone : {Command : Type 0} → Speaking Command → (words : List (List ℕ)) → Error → Type 0
OrdersNone speaking words error = (app : App) × IsProgram speaking.shapes app
    × (IsUntaken app words error ⊎ ((matches : ArgMatches) × IsFoundIn app words matches × LacksOrder speaking matches))

-- The words order this: to run a command; or to show the text of an error of `clap` that asks for that.
abbrev pub IsOrdered : {Command Text : Type 0} → Speaking Command → (made : Error → Text → Type 0) → (words : List (List ℕ)) → Order Command Text → Type 0
IsOrdered {Command} {Text} speaking made words (Show text) = (error : Error) × made error text × (is_text (kind_of error) ≡ true) × OrdersNone speaking words error
IsOrdered {Command} {Text} speaking made words (Run command bits output places) = OrdersRun {Text = Text} speaking words (Run command bits output places)

-- The fault is that memory was refused, or that the words order nothing.
abbrev pub IsDisordered : {Command : Type 0} → Speaking Command → (words : List (List ℕ)) → Fault → Type 0
IsDisordered speaking words fault.Memory = Unit {0}
IsDisordered speaking words (fault.Usage error) = OrdersNone speaking words error
IsDisordered speaking words _ = ⊥

-- `clap`'s answer is an order that the words give, or an error because they order nothing or memory was refused.
abbrev pub IsRefusedIn : {Command : Type 0} → Speaking Command → (words : List (List ℕ)) → Error → Type 0
IsRefusedIn speaking words error = (kind_of error ≡ OutOfMemory) ⊎ OrdersNone speaking words error
