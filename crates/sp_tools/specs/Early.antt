-- The faults that a command tells before it writes.
use Rattle.std.specs.Prelude.{◌≡◌, ◌≢◌, None, false}
use Rattle.sp_device.specs.Failing.{Failing, Never}
use Rattle.sp_text.specs.declared.faults.Kind.TheVariants.{Read}
use Rattle.sp_packed.specs.declared.faults.PackedKind.TheVariants as packed
use Rattle.sp_command.specs.declared.faults.FileKind.{FileKind}
use Rattle.sp_command.specs.declared.faults.FileKind.TheVariants.{Graph}
use Rattle.sp_command.specs.declared.faults.Fault.{Fault}
use Rattle.sp_command.specs.declared.faults.Fault.TheVariants as fault
use Rattle.sp_command.specs.Scene.{Files, scene}
use Rattle.sp_command.specs.Causes.{Paths, IsBorneOut}

-- The fault is borne out where the writer hasn't failed.
abbrev pub IsEarly : Paths → (own : Fault → Type 0) → Files → Fault → Type 0
IsEarly paths own files why = IsBorneOut paths own (scene files None None false) why

-- The text of a file of this kind was refused, or there was no memory. If the device failed, then it may fail.
abbrev pub IsOfFile : FileKind → Failing → Fault → Type 0
IsOfFile file failing (fault.Input kind error) = (kind ≡ file) × (error.kind ≡ Read → failing ≢ Never)
IsOfFile file failing fault.Memory = Unit {0}
IsOfFile file failing _ = ⊥

-- A graph of either form was refused, or there was no memory. If the device failed, then it may fail.
abbrev pub IsOfGraph : Failing → Fault → Type 0
IsOfGraph failing (fault.Input kind error) = (kind ≡ Graph) × (error.kind ≡ Read → failing ≢ Never)
IsOfGraph failing (fault.Packed error) = error.kind ≡ packed.Read → failing ≢ Never
IsOfGraph failing fault.Memory = Unit {0}
IsOfGraph failing _ = ⊥

-- A command has no faults of its own.
abbrev pub no_faults : Fault → Type 0
no_faults why = ⊥
