-- How runs from sources end.
use Rattle.std.specs.Prelude.{Bool, true, false, ◌==◌, if◌then◌else◌, Result, Ok, Err}
use Rattle.sp_jobs.specs.declared.answers.Summary.{Summary}
use Rattle.sp_jobs.specs.declared.answers.BatchError.{BatchError}
use Rattle.sp_jobs.specs.declared.answers.BatchError.TheVariants as batch
use Rattle.sp_jobs.specs.declared.answers.Role.{Role}
use Rattle.sp_jobs.specs.declared.answers.Role.TheVariants as role
use Rattle.sp_network.specs.declared.faults.NetworkFault.TheVariants as network
use Rattle.sp_command.specs.declared.faults.Fault.{Fault}
use Rattle.sp_command.specs.declared.faults.Fault.TheVariants as fault
use Rattle.sp_command.specs.declared.faults.FileKind.{FileKind}
use Rattle.sp_command.specs.declared.faults.FileKind.TheVariants as file
use Rattle.sp_command.specs.declared.faults.Status.{Status}
use Rattle.sp_command.specs.declared.faults.Status.TheVariants as status

-- All answers were written. Where a vertex is too far this is told, unless it was said to be fine.
abbrev pub end_of : Bool → Summary → Status
end_of true summary = status.Done
end_of false summary = if summary.too_far == 0 then status.Done else status.TooFar

-- The list that names a number of this role.
abbrev pub kind_of : Role → FileKind
kind_of role.Source = file.Sources
kind_of role.Target = file.Targets

-- The fault for a batch's error.
abbrev pub fault_of : BatchError → Fault
fault_of (batch.Gr (network.Text error)) = fault.Input file.Graph error
fault_of (batch.Gr (network.Packed error)) = fault.Packed error
fault_of (batch.Ss error) = fault.Input file.Sources error
fault_of (batch.Targets error) = fault.Input file.Targets error
fault_of (batch.Pairs error) = fault.Input file.Pairs error
fault_of (batch.NoSuchVertex number role) = fault.NoSuchVertex number (kind_of role)
fault_of batch.Memory = fault.Memory
fault_of batch.Write = fault.WriteFailed

-- what a command answers whose job has answered this
abbrev pub end_after : (far_ok : Bool) → Result Summary BatchError → Result Status Fault
end_after far_ok (Ok summary) = Ok (end_of far_ok summary)
end_after far_ok (Err error) = Err (fault_of error)
