-- Exit statuses, and the faults that have each of them.
use Rattle.std.specs.Prelude.{ℕ, Bool, true, false}
use Rattle.sp_command.specs.declared.faults.Status.{Status}
use Rattle.sp_command.specs.declared.faults.Status.TheVariants as status
use Rattle.sp_command.specs.declared.faults.Fault.{Fault}
use Rattle.sp_command.specs.declared.faults.Fault.TheVariants as fault
use Rattle.sp_packed.specs.declared.faults.PackedKind.{PackedKind}
use Rattle.sp_packed.specs.declared.faults.PackedKind.TheVariants as packed
use Rattle.sp_text.specs.declared.faults.Kind.{Kind}
use Rattle.sp_text.specs.declared.faults.Kind.TheVariants as kind

-- This is the number with which the process ends.
abbrev pub code_of : Status → ℕ
code_of status.Done = 0
code_of status.Usage = 1
code_of status.Refused = 2
code_of status.CheckedNo = 3
code_of status.TooFar = 4
code_of status.Memory = 5
code_of status.Failed = 6

-- The command was carried out, and it wrote nothing to standard error.
abbrev pub is_done : Status → Bool
is_done status.Done = true
is_done status.CheckedNo = true
is_done status.TooFar = true
is_done _ = false

-- This is the status of a text that is refused, unless the reason is a failed allocation or a failed read.
abbrev pub status_of_kind : Kind → Status
status_of_kind kind.Memory = status.Memory
status_of_kind kind.Read = status.Failed
status_of_kind _ = status.Refused

-- The same of a packed graph.
abbrev pub status_of_word : PackedKind → Status
status_of_word packed.Memory = status.Memory
status_of_word packed.Read = status.Failed
status_of_word _ = status.Refused

-- The exit status for a fault.
abbrev pub status_of : Fault → Status
status_of (fault.Usage error) = status.Usage
status_of fault.DeltaOutOfRange = status.Usage
status_of fault.LimitOutOfRange = status.Usage
status_of fault.InputTwice = status.Usage
status_of fault.NoPlaces = status.Usage
status_of (fault.OutputIsInput file) = status.Usage
status_of (fault.CannotOpen file) = status.Failed
status_of (fault.Input file error) = status_of_kind error.kind
status_of (fault.Packed error) = status_of_word error.kind
status_of (fault.NoSuchVertex source kind) = status.Refused
status_of fault.TooManySteps = status.Refused
status_of fault.ToTerminal = status.Usage
status_of fault.Memory = status.Memory
status_of fault.WriteFailed = status.Failed
status_of fault.CannotWrite = status.Failed

-- The fault comes before anything is written: it is none of memory, or of the writer.
abbrev pub is_early : Fault → Bool
is_early fault.Memory = false
is_early fault.WriteFailed = false
is_early _ = true
