-- From what `clap` answers to the words to what they order.
use Rattle.std.proofs.Common.{◌≡◌, ◌≢◌, ◌⊎◌, ℕ, Bool, true, false, List, Option, Some, None, Result, Ok, Err, IfOk, IfErr, IsOk, MatchOption, MatchResult, Box, option_map, refl, sym, ap, ap₂, ◌∙◌, subst, inl, inr}
use Rattle.std.proofs.lemmas.Bool.{false≢true}
use Rattle.std.specs.Borrow.{Bor}
use Rattle.std.specs.Box.{box_value}
use Rattle.clap.specs.Kinds.{FailsBy, HasKind}
use Rattle.clap.specs.Faults.{fault_of, is_simple_and_free}
use Rattle.clap.specs.Matches.{found_of, subcommand_name_of}
use Rattle.clap.specs.Simple.{App, HasMatchesOf, app_of, subcommand_rows}
use Rattle.clap.specs.Takes.{takes}
use Rattle.clap.specs.Values.{kind_of}
use Rattle.clap.specs.Walk.{Row, rows_of}
use Rattle.clap.specs.declared.builder.command.Command.{Command as Program}
use Rattle.clap.specs.declared.error.Error.{Error}
use Rattle.clap.specs.declared.error.kind.ErrorKind.{ErrorKind}
use Rattle.clap.specs.declared.error.kind.ErrorKind.TheVariants as kind
use Rattle.clap.specs.declared.parser.matches.ArgMatches.{ArgMatches}
use Rattle.clap.specs.declared.parser.matches.ArgMatches.TheViews.{out-ArgMatches, out-SubCommand}
use Rattle.clap.specs.declared.parser.matches.Found.{Found}
use Rattle.clap.specs.declared.parser.matches.SubCommand.{SubCommand}
use Rattle.sp_command.specs.declared.command.Commands.{Ghosts as Speaking}
use Rattle.sp_command.specs.declared.faults.Fault.{Fault}
use Rattle.sp_command.specs.declared.faults.Fault.TheVariants as fault
use Rattle.sp_command.specs.Reading.{IsRefusedFor}
use Rattle.sp_command.specs.Rules.{AddsCommands, with_subcommands}
use Rattle.sp_order.specs.declared.order.Order.{Order}
use Rattle.sp_order.specs.declared.order.Order.TheVariants.{Show, Run}
use Rattle.sp_order.specs.Reads.{GoesTo, HasFound, IsDisordered, IsFoundIn, IsOrdered, IsOrderIn, IsProgram, IsRefusedIn, IsRunIn, IsShowOf, LacksLayout, LacksOrder, OrdersNone, bare_app}
use Rattle.sp_order.specs.Words.{NamesOutput, NamesNoOutput, is_text}

-- ## Kinds

abbrev Split : ErrorKind → Type 0
Split k = (k ≡ kind.OutOfMemory) ⊎ ((is_text k ≡ true) ⊎ ((k ≢ kind.OutOfMemory) × (is_text k ≡ false)))

split : (k : ErrorKind) → Split k
split kind.OutOfMemory = inl refl
split kind.DisplayHelp = inr (inl refl)
split kind.DisplayVersion = inr (inl refl)
split kind.InvalidValue = inr (inr ((λ is. cc), refl))
split kind.UnknownArgument = inr (inr ((λ is. cc), refl))
split kind.InvalidSubcommand = inr (inr ((λ is. cc), refl))
split kind.NoEquals = inr (inr ((λ is. cc), refl))
split kind.ValueValidation = inr (inr ((λ is. cc), refl))
split kind.TooManyValues = inr (inr ((λ is. cc), refl))
split kind.TooFewValues = inr (inr ((λ is. cc), refl))
split kind.WrongNumberOfValues = inr (inr ((λ is. cc), refl))
split kind.ArgumentConflict = inr (inr ((λ is. cc), refl))
split kind.MissingRequiredArgument = inr (inr ((λ is. cc), refl))
split kind.MissingSubcommand = inr (inr ((λ is. cc), refl))
split kind.DisplayHelpOnMissingArgumentOrSubcommand = inr (inr ((λ is. cc), refl))
split kind.Io = inr (inr ((λ is. cc), refl))
split kind.Format = inr (inr ((λ is. cc), refl))

-- ## A command's words

-- A command that was found has its name and its rows.
rows_are : {Z : Type 0} (sub : Option (Box SubCommand Z)) (name : List ℕ) (rows : List Row) → Some name ≡ option_map (λ b. (out-SubCommand (box_value b)).name.now) sub
    → Some rows ≡ option_map (λ p. p.1) (subcommand_rows sub) → subcommand_rows sub ≡ Some (name, rows)
rows_are None name rows name_is rows_is = absurd (let no : ⊥ = cc in no)
rows_are (Some b) name rows name_is rows_is =
    let names : name ≡ (out-SubCommand (box_value b)).name.now = cc in
    let found : rows ≡ rows_of (found_of (out-SubCommand (box_value b)).matches) = cc in
    sym (ap₂ (λ (n : List ℕ) (r : List Row). Some (n, r)) names found)

-- What the matches say of their command.
pub has_found : (matches : ArgMatches) (name : List ℕ) (found : Found) → Some name ≡ subcommand_name_of matches → Some (rows_of found) ≡ option_map (λ p. p.1) (subcommand_rows (out-ArgMatches matches).subcommand) → HasFound matches name found
has_found matches name found name_is rows_is = rows_are (out-ArgMatches matches).subcommand name (rows_of found) name_is rows_is

-- A command that isn't there, or that can't be read.
pub lacks_command : {Command : Type 0} (speaking : Speaking Command) (matches : ArgMatches) (name : List ℕ) (found : Found) → HasFound matches name found → speaking.unnamed name found → LacksOrder speaking matches
lacks_command speaking matches name found has lacks = inr (name, found, has, inl lacks)

pub lacks_layout : {Command : Type 0} (speaking : Speaking Command) (matches : ArgMatches) (name : List ℕ) (found : Found) → HasFound matches name found → LacksLayout found → LacksOrder speaking matches
lacks_layout speaking matches name found has lacks = inr (name, found, has, inr (inr lacks))

pub refused_command : {Command : Type 0} (speaking : Speaking Command) (matches : ArgMatches) (name : List ℕ) (found : Found) (error : Error) → HasFound matches name found
    → IsRefusedFor (speaking.lacking name found) error → IsRefusedFor (LacksOrder speaking matches) error
refused_command speaking matches name found error has (inl memory) = inl memory
refused_command speaking matches name found error has (inr lacks) = inr (inr (name, found, has, inr (inl lacks)))

pub goes_to : (found : Found) (path : Option (Bor (List ℕ))) → MatchOption path (NamesNoOutput found) (λ path. NamesOutput found path.now) → GoesTo found (option_map (λ path. path.now) path)
goes_to found None is = is
goes_to found (Some path) is = is

-- ## The program

-- A program with commands.
program_is : {Command : Type 0} (speaking : Speaking Command) (old new : Program) → app_of old ≡ bare_app → AddsCommands old speaking.shapes new → IsProgram speaking.shapes (app_of new)
program_is speaking old new bare (whole, are, is) = (whole, are, is ∙ ap (λ app. with_subcommands app whole) bare)

taken_or : (b : Bool) (K : Type 0) → (b ≡ true → K) → K ⊎ (b ≡ true → ⊥)
taken_or true K k = inl (k refl)
taken_or false K k = inr (λ is. false≢true is)

-- An error of `clap`.
pub by_clap : {Command T : Type 0} (speaking : Speaking Command) (words : List (List ℕ)) (old new : Program) (r : Result T Error) (error : Error) → app_of old ≡ bare_app → AddsCommands old speaking.shapes new
    → r ≡ Err error → IfErr r (λ e. takes (app_of new) words ≡ true → kind_of e ≡ kind.OutOfMemory) → (is_simple_and_free (app_of new) ≡ true → FailsBy (fault_of (app_of new) words) r)
    → IsRefusedIn speaking words error
by_clap {T = T} speaking words old new r error bare adds is passes kinds =
    let passes_at : takes (app_of new) words ≡ true → kind_of error ≡ kind.OutOfMemory = subst (λ (x : Result T Error). IfErr x (λ e. takes (app_of new) words ≡ true → kind_of e ≡ kind.OutOfMemory)) is passes in
    let kinds_at : is_simple_and_free (app_of new) ≡ true → HasKind (fault_of (app_of new) words) error = λ free. subst (λ (x : Result T Error). FailsBy (fault_of (app_of new) words) x) is (kinds free) in
    elim (taken_or (takes (app_of new) words) (kind_of error ≡ kind.OutOfMemory) passes_at) [
      | inl memory ↦ inl memory
      | inr untaken ↦ inr (app_of new, program_is speaking old new bare adds, inl (record { untaken = untaken; kind = kinds_at }))
    ]

found_in : (words : List (List ℕ)) (app : App) (matches : ArgMatches) → HasMatchesOf app words matches → IsFoundIn app words matches
found_in words app matches has simple = (has simple).1

-- Matches that give no order.
pub by_matches : {Command : Type 0} (speaking : Speaking Command) (words : List (List ℕ)) (old new : Program) (matches : ArgMatches) (error : Error) → app_of old ≡ bare_app → AddsCommands old speaking.shapes new
    → HasMatchesOf (app_of new) words matches → LacksOrder speaking matches → IsRefusedIn speaking words error
by_matches speaking words old new matches error bare adds has lacks =
    inr (app_of new, program_is speaking old new bare adds, inr (matches, found_in words (app_of new) matches has, lacks))

-- The same where memory may have been refused.
pub by_command : {Command : Type 0} (speaking : Speaking Command) (words : List (List ℕ)) (old new : Program) (matches : ArgMatches) (error : Error) → app_of old ≡ bare_app → AddsCommands old speaking.shapes new
    → HasMatchesOf (app_of new) words matches → IsRefusedFor (LacksOrder speaking matches) error → IsRefusedIn speaking words error
by_command speaking words old new matches error bare adds has (inl memory) = inl memory
by_command speaking words old new matches error bare adds has (inr lacks) = by_matches speaking words old new matches error bare adds has lacks

-- Matches that give an order.
pub ordered : {Command Text : Type 0} (speaking : Speaking Command) (words : List (List ℕ)) (old new : Program) (matches : ArgMatches) (order : Order Command Text) → app_of old ≡ bare_app → AddsCommands old speaking.shapes new
    → HasMatchesOf (app_of new) words matches → IsOrderIn speaking matches order → IsRunIn speaking words order
ordered speaking words old new matches (Show text) bare adds has (name, found, found_is, is) = is
ordered speaking words old new matches (Run command bits output places) bare adds has is =
    (app_of new, matches, program_is speaking old new bare adds, found_in words (app_of new) matches has, is)

-- ## The answer

pub run_ordered : {Command Text : Type 0} (speaking : Speaking Command) (made : Error → Text → Type 0) (words : List (List ℕ)) (order : Order Command Text) → IsRunIn speaking words order → IsOrdered speaking made words order
run_ordered speaking made words (Show text) is = absurd is
run_ordered speaking made words (Run command bits output places) is = is

none_ordered : {Command : Type 0} (speaking : Speaking Command) (words : List (List ℕ)) (error : Error) → (kind_of error ≡ kind.OutOfMemory → ⊥) → IsRefusedIn speaking words error → OrdersNone speaking words error
none_ordered speaking words error other (inl memory) = absurd (other memory)
none_ordered speaking words error other (inr none) = none

shown : {Command Text : Type 0} (speaking : Speaking Command) (made : Error → Text → Type 0) (words : List (List ℕ)) (error : Error) (result : Result (Order Command Text) Fault) → is_text (kind_of error) ≡ true → OrdersNone speaking words error
    → IfOk result (IsShowOf made error) → IsOk result → MatchResult result (IsOrdered speaking made words) (IsDisordered speaking words)
shown speaking made words error (Ok (Show text)) text_is none made_is ok = (error, made_is, text_is, none)
shown speaking made words error (Ok (Run command bits output places)) text_is none made_is ok = absurd made_is
shown speaking made words error (Err why) text_is none made_is ok = absurd (false≢true ok)

-- What is answered where `clap` found no order.
pub answer_is : {Command Text : Type 0} (speaking : Speaking Command) (made : Error → Text → Type 0) (words : List (List ℕ)) (error : Error) (result : Result (Order Command Text) Fault)
    → (kind_of error ≡ kind.OutOfMemory → result ≡ Err fault.Memory)
    → (is_text (kind_of error) ≡ true → IfOk result (IsShowOf made error) × IsOk result)
    → (kind_of error ≢ kind.OutOfMemory → is_text (kind_of error) ≡ false → result ≡ Err (fault.Usage error))
    → IsRefusedIn speaking words error → MatchResult result (IsOrdered speaking made words) (IsDisordered speaking words)
answer_is {Command} {Text} speaking made words error result memory text usage refused =
    elim (split (kind_of error)) [
      | inl is ↦ subst (λ (r : Result (Order Command Text) Fault). MatchResult r (IsOrdered speaking made words) (IsDisordered speaking words)) (sym (memory is)) tt
      | inr other ↦ elim other [
        | inl is ↦ shown speaking made words error result is (none_ordered speaking words error (λ oom. false≢true (sym (ap is_text oom) ∙ is)) refused) (text is).0 (text is).1
        | inr neither ↦ subst (λ (r : Result (Order Command Text) Fault). MatchResult r (IsOrdered speaking made words) (IsDisordered speaking words)) (sym (usage neither.0 neither.1)) (none_ordered speaking words error neither.0 refused)
      ]
    ]
