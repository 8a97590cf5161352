-- The answer to the whole text of a device.
use Rattle.std.specs.Prelude.{◌≡◌, ◌≢◌, ℕ, ◌⊎◌, Bool, true, List, [], ◌++◌, Option, Some, None, Result, Ok, Err, IfErr}
use Rattle.std.specs.Io.KnownBytes.{Consumes, IsAtEnd}
use Rattle.sp_device.specs.declared.devices.Read.{Ghosts as Reader}
use Rattle.sp_device.specs.Failing.{Failing, Never}
use Rattle.sp_text.specs.declared.faults.DimacsError.{DimacsError}
use Rattle.sp_text.specs.declared.faults.Kind.TheVariants.{Read}
use Rattle.sp_text.specs.Lines.{lines}
use Rattle.sp_text.specs.First.{Judge, fault_at_failure, fault_at_end}
use Rattle.sp_text.specs.Feeding.{IsToldOf, Refused}

-- A part of the whole text was read, and the rest is left. Either all of it was read, and the value is what its lines
-- spell, or the fault is its first one; or the part that was read shows the fault; or the device has failed.
abbrev pub AllRead : {V : Type 0} → Judge → (List (List ℕ) → V → Type 0) → List ℕ → Option (List ℕ) → Bool → Result V DimacsError → Type 0
AllRead judge Spelled text left has_failed (Ok value) = (left ≡ Some []) × (fault_at_end judge text ≡ None) × Spelled (lines text) value
AllRead judge Spelled text left has_failed (Err e) = (front more : List ℕ) × (text ≡ front ++ more) × (left ≡ Some more) ×
    (Refused judge [] front e ⊎ ((more ≡ []) × IsToldOf judge text e) ⊎ ((has_failed ≡ true) × (fault_at_failure judge front ≡ Some e)))

-- A text spells this value.
abbrev pub IsSpelled : {V : Type 0} → Judge → (List (List ℕ) → V → Type 0) → V → Type 0
IsSpelled judge Spelled value = (text : List ℕ) × (fault_at_end judge text ≡ None) × Spelled (lines text) value

-- This says the same where the bytes of the device may be unknown: this text came from it.
abbrev pub ReadOn : {R V : Type 0} → Judge → (List (List ℕ) → V → Type 0) → Reader R → R → Result V DimacsError → R → Type 0
ReadOn judge Spelled r old (Ok value) new = (text : List ℕ) × Consumes (r.left old) (r.left new) text × IsAtEnd (r.left new) × (fault_at_end judge text ≡ None) × Spelled (lines text) value
ReadOn judge Spelled r old (Err e) new = (front : List ℕ) × Consumes (r.left old) (r.left new) front ×
    (Refused judge [] front e ⊎ (IsAtEnd (r.left new) × IsToldOf judge front e) ⊎ ((r.has_failed new ≡ true) × (fault_at_failure judge front ≡ Some e)))

-- The fault Read is never reported for a device that never fails.
abbrev pub NeverRead : {V : Type 0} → Failing → Result V DimacsError → Type 0
NeverRead failing result = failing ≡ Never → IfErr result (λ e. e.kind ≢ Read)
