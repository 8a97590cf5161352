-- What a command line leaves on standard error.
use Rattle.std.specs.Prelude.{◌≡◌, ℕ, true, ◌⊎◌, List, ◌++◌, Some, Result, Ok, Err}
use Rattle.std.specs.Io.KnownBytes.{Appends}
use Rattle.sp_device.specs.declared.devices.Write.{Ghosts as Writer}
use Rattle.sp_device.specs.Devices.{IsBegun}
use Rattle.sp_command.specs.declared.faults.Fault.{Fault}
use Rattle.sp_command.specs.declared.faults.Fault.TheVariants.{WriteFailed}
use Rattle.sp_command.specs.declared.faults.Status.{Status}
use Rattle.sp_command.specs.Faults.{code_of, status_of}
use Rattle.sp_command.specs.Lines.{line_of}
use Rattle.sp_command.specs.Outputs.{OutputFiles}
use Rattle.sp_command.specs.Scene.{Scene}
use Rattle.sp_order.specs.declared.hints.Refusal.{Refusal}
use Rattle.sp_order.specs.declared.hints.Telling.{Telling}
use Rattle.sp_order.specs.declared.hints.Telling.TheVariants.{Nothing, Line, Lines}
use Rattle.sp_order.specs.Orders.{IsObeyed, Obeying, end_of}

-- The writer has failed, and a beginning of the text was written.
abbrev pub BreaksOff : {E : Type 0} → Writer E → List ℕ → (old new : E) → Type 0
BreaksOff e text old new = IsBegun text (e.written old) (e.written new) × (e.has_failed new ≡ true)

-- Exactly the fault's line was written, if its text is known; or the writer has failed at it.
abbrev pub IsLineTold : {E : Type 0} → Writer E → Fault → (old new : E) → Type 0
IsLineTold e why old new = (line : List ℕ) → line_of why ≡ Some line → Appends (e.written old) (e.written new) line ⊎ BreaksOff e line old new

-- The fault's line was written, if its text is known, and perhaps more behind it; or the writer has failed at the line.
abbrev pub IsFaultTold : {E : Type 0} → Writer E → Fault → (old new : E) → Type 0
IsFaultTold e why old new = (line : List ℕ) → line_of why ≡ Some line → ((more : List ℕ) × Appends (e.written old) (e.written new) (line ++ more)) ⊎ BreaksOff e line old new

-- This is what the text about a fault says.
abbrev pub Tells : {E : Type 0} → Writer E → Telling → Fault → (old new : E) → Type 0
Tells e Nothing why old new = new ≡ old
Tells e Line why old new = IsLineTold e why old new
Tells e (Lines hint) why old new = IsFaultTold e why old new

-- An answer ends with its status, or with that of its fault, of which its text is written.
abbrev pub EndsWith : {E : Type 0} → Writer E → (answer : Result Status Refusal) → (old new : E) → Status → Type 0
EndsWith e (Ok status) old new end = (end ≡ status) × (new ≡ old)
EndsWith e (Err refusal) old new end = (end ≡ status_of refusal.fault) × Tells e refusal.telling refusal.fault old new

-- A fault is told, unless it is that the writer of standard output failed, of which nobody need be told. Nothing else
-- is told.
abbrev pub IsTold : {E : Type 0} → Writer E → Result Status Fault → (old new : E) → Type 0
IsTold e (Ok end) old new = new ≡ old
IsTold e (Err why) old new = IsFaultTold e why old new ⊎ ((why ≡ WriteFailed) × (new ≡ old))

-- The words were obeyed with some answer. The number is the exit status of that answer, and its fault is told.
abbrev pub IsAnswered : {Command Text E : Type 0} → Obeying Command Text → (words : List (List ℕ)) → Scene → (old new : OutputFiles) → Writer E → (err_old err_new : E) → (code : ℕ) → Type 0
IsAnswered by words s old new e err_old err_new code =
    (result : Result Status Fault) × IsObeyed by words s old new result × (code ≡ code_of (end_of result)) × IsTold e result err_old err_new
