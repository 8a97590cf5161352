-- What comes of an order.
use Rattle.std.specs.Prelude.{◌≡◌, ℕ, Bool, false, true, ◌⊎◌, List, Some, None, Option, Result, Ok, Err}
use Rattle.std.specs.Io.KnownBytes.{Appends}
use Rattle.clap.specs.declared.error.Error.{Error}
use Rattle.sp_command.specs.declared.command.Commands.{Ghosts as Speaking}
use Rattle.sp_command.specs.declared.faults.FileKind.{FileKind}
use Rattle.sp_command.specs.declared.faults.Fault.{Fault}
use Rattle.sp_command.specs.declared.faults.Fault.TheVariants as fault
use Rattle.sp_command.specs.declared.faults.Status.{Status}
use Rattle.sp_command.specs.declared.faults.Status.TheVariants as status
use Rattle.sp_command.specs.declared.layout.PredBits.{PredBits}
use Rattle.sp_command.specs.Causes.{Paths, MayBeOutput, SparesInputs}
use Rattle.sp_command.specs.Faults.{status_of}
use Rattle.sp_command.specs.Layouts.{Runs}
use Rattle.sp_command.specs.Outputs.{OutputFiles, IsBlank, with_kept}
use Rattle.sp_command.specs.Scene.{Files, Scene, scene, IsUnwritten}
use Rattle.sp_command.specs.Lines.{IsPlain}
use Rattle.sp_order.specs.Reads.{IsDisordered, IsOrdered}
use Rattle.sp_order.specs.declared.order.Order.{Order}
use Rattle.sp_order.specs.declared.order.Order.TheVariants.{Show, Run}

-- ## An output that goes to a file

-- The command ran like this on an output of its own, on which nothing stood before, and this stands there now.
pub record RanAlone {Command : Type 0} (runs : Runs Command) (bits : PredBits) (command : Command) (files : Files) (after : Option (List ℕ)) (result : Result Status Fault) : Type 0 where
  pub before : Option (List ℕ)
  pub failed : Bool
  pub blank : IsBlank before
  pub ran : runs bits command (scene files before after failed) result

-- The command was carried out, and what it wrote was kept as the file of this path.
abbrev pub IsKept : {Command : Type 0} → Runs Command → PredBits → Command → (path : List ℕ) → Files → (old new : OutputFiles) → Status → Type 0
IsKept runs bits command path files old new end = (after : Option (List ℕ)) × RanAlone runs bits command files after (Ok end) × (new ≡ with_kept old path after)

-- The fault is one of the command; or memory was refused; or the file couldn't be made or kept, and nothing says that it
-- can.
abbrev pub IsFaultOfFile : {Command : Type 0} → Runs Command → PredBits → Command → (path : List ℕ) → Files → OutputFiles → Fault → Type 0
IsFaultOfFile runs bits command path files outputs why =
    ((after : Option (List ℕ)) × RanAlone runs bits command files after (Err why)) ⊎ ((why ≡ fault.Memory) ⊎ ((why ≡ fault.CannotWrite) × (outputs.takes path ≡ false)))

-- The file is kept if the command is carried out, and else no file is.
abbrev pub RunsInto : {Command : Type 0} → Runs Command → PredBits → Command → (path : List ℕ) → Files → (old new : OutputFiles) → Result Status Fault → Type 0
RunsInto runs bits command path files old new (Ok end) = IsKept runs bits command path files old new end
RunsInto runs bits command path files old new (Err why) = IsFaultOfFile runs bits command path files old why × (new ≡ old)

-- The output would go to one of these files, or nothing says that it wouldn't. No file is kept.
abbrev pub IsHeldBack : Paths → Files → (path : List ℕ) → (old new : OutputFiles) → Result Status Fault → Type 0
IsHeldBack paths files path old new (Ok end) = ⊥
IsHeldBack paths files path old new (Err why) = (file : FileKind) × (why ≡ fault.OutputIsInput file) × MayBeOutput paths files path file × (new ≡ old)

-- Where the output would go to a file that the command reads, that is told. Otherwise the command runs, and nothing is known to
-- be such a file.
abbrev pub RunsApart : {Command : Type 0} → Runs Command → (paths : Command → Paths) → PredBits → Command → (path : List ℕ) → Files → (old new : OutputFiles) → Result Status Fault → Type 0
RunsApart runs paths bits command path files old new result =
    (SparesInputs (paths command) files path × RunsInto runs bits command path files old new result) ⊎ IsHeldBack (paths command) files path old new result

-- ## An order

-- Exactly the text that a value is displayed as was written, if that is known and a terminal shows it; or the writer failed; or
-- the value refused to be displayed.
abbrev pub IsShown : Option (List ℕ) → Scene → Result Status Fault → Type 0
IsShown output s (Ok end) = (end ≡ status.Done) × ((text : List ℕ) → output ≡ Some text → IsPlain text → Appends s.before s.after text)
IsShown output s (Err why) = (why ≡ fault.Memory) ⊎ ((why ≡ fault.WriteFailed) × (s.failed ≡ true))

-- A text is shown; or a command runs in the layout that was ordered; or its output goes to a file, and nothing is
-- written to standard output. No other file is kept.
abbrev pub IsCarriedOut : {Command Text : Type 0} → Runs Command → (paths : Command → Paths) → (output : Text → Option (List ℕ)) → Order Command Text → Scene → (old new : OutputFiles) → Result Status Fault → Type 0
IsCarriedOut runs paths output (Show text) s old new result = IsShown (output text) s result × (new ≡ old)
IsCarriedOut runs paths output (Run command bits None places) s old new result = runs bits command s result × (new ≡ old)
IsCarriedOut runs paths output (Run command bits (Some path) places) s old new result = RunsApart runs paths bits command path.now s.files old new result × IsUnwritten s

-- What an order is read by and carried out by: what is said of commands in words, what they do, how a text is made of what
-- `clap` answers, and what is displayed of it.
pub record Obeying (Command Text : Type 0) : Type 1 where
  pub speaking : Speaking Command
  pub runs : Runs Command
  pub made : Error → Text → Type 0
  pub output : Text → Option (List ℕ)

-- How orders are carried out, from these parts.
abbrev pub obeying : {Command Text : Type 0} → Speaking Command → Runs Command → (made : Error → Text → Type 0) → (output : Text → Option (List ℕ)) → Obeying Command Text
obeying speaking runs made output = record { speaking = speaking; runs = runs; made = made; output = output }

-- The words have a fault, and nothing was written or kept.
abbrev pub IsNoOrder : {Command Text : Type 0} → Obeying Command Text → (words : List (List ℕ)) → Scene → (old new : OutputFiles) → Result Status Fault → Type 0
IsNoOrder by words s old new (Ok end) = ⊥
IsNoOrder by words s old new (Err why) = IsDisordered by.speaking words why × IsUnwritten s × (new ≡ old)

-- What the words order was carried out like this; or they order nothing.
abbrev pub IsObeyed : {Command Text : Type 0} → Obeying Command Text → (words : List (List ℕ)) → Scene → (old new : OutputFiles) → Result Status Fault → Type 0
IsObeyed {Command} {Text} by words s old new result =
    ((order : Order Command Text) × IsOrdered by.speaking by.made words order × IsCarriedOut by.runs by.speaking.paths by.output order s old new result) ⊎ IsNoOrder by words s old new result

-- This is the status of an answer.
abbrev pub end_of : Result Status Fault → Status
end_of (Ok end) = end
end_of (Err why) = status_of why
