-- The meaning of a command's answer, for a command that finds something and then writes it as one text.
use Rattle.std.specs.Prelude.{◌≡◌, ℕ, true, ◌⊎◌, List, Result, Ok, Err}
use Rattle.std.specs.Io.KnownBytes.{Appends}
use Rattle.sp_device.specs.Devices.{IsBegun}
use Rattle.sp_command.specs.declared.faults.Fault.{Fault}
use Rattle.sp_command.specs.declared.faults.Fault.TheVariants as fault
use Rattle.sp_command.specs.declared.faults.Status.{Status}
use Rattle.sp_command.specs.Scene.{Scene, IsUnwritten}

-- The fault keeps a command from finding anything: a file couldn't be opened, what it holds was refused as stated, or there
-- was no memory.
abbrev pub Hinders : (IsRefused : Fault → Type 0) → Fault → Type 0
Hinders IsRefused (fault.Input kind error) = IsRefused (fault.Input kind error)
Hinders IsRefused (fault.Packed error) = IsRefused (fault.Packed error)
Hinders IsRefused (fault.CannotOpen kind) = Unit {0}
Hinders IsRefused fault.InputTwice = Unit {0}
Hinders IsRefused fault.Memory = Unit {0}
Hinders IsRefused _ = ⊥

-- The text of something that was found was written, and the status belongs to it.
abbrev pub Told : {V : Type 0} → (IsFound : V → Type 0) → (text_of : V → List ℕ) → (status_of : V → Status) → Scene → Status → Type 0
Told {V} IsFound text_of status_of s status = (v : V) × IsFound v × Appends s.before s.after (text_of v) × (status ≡ status_of v)

-- The writer failed, and a prefix of the text of something that was found was written.
abbrev pub Broke : {V : Type 0} → (IsFound : V → Type 0) → (text_of : V → List ℕ) → Scene → Fault → Type 0
Broke {V} IsFound text_of s why = (why ≡ fault.WriteFailed) × (s.failed ≡ true) × ((v : V) × IsFound v × IsBegun (text_of v) s.before s.after)

-- What was found was written; or the command could find nothing, and nothing was written; or the writer failed.
abbrev pub Tells : {V : Type 0} → (IsFound : V → Type 0) → (text_of : V → List ℕ) → (status_of : V → Status) → (IsRefused : Fault → Type 0) → Scene → Result Status Fault → Type 0
Tells IsFound text_of status_of IsRefused s (Ok status) = Told IsFound text_of status_of s status
Tells IsFound text_of status_of IsRefused s (Err why) = (Hinders IsRefused why × IsUnwritten s) ⊎ Broke IsFound text_of s why
