-- A device whose next byte may wait.
use Rattle.std.specs.Prelude.{◌≡◌, ℕ, ◌+◌, ◌-◌, ◌^◌, ◌≤◌, true, false, ⊤, List, [], ◌∷◌, Option, Some, None, Result, Ok, Err}
use Rattle.std.specs.Io.KnownBytes.{Consumes, Keeps, IsAtEnd}
use Rattle.sp_device.specs.Failing.{Behind}
use Rattle.sp_device.specs.declared.devices.Failed.{Failed}
use Rattle.sp_device.specs.declared.devices.Read.{Ghosts as Reader}

-- This is what is left, with the byte before it.
abbrev pub joined : Option ℕ → Option (List ℕ) → Option (List ℕ)
joined None left = left
joined (Some b) None = None
joined (Some b) (Some left) = Some (b ∷ left)

-- This is how many bytes were passed, without the byte.
abbrev pub passed_behind : Option ℕ → ℕ → ℕ
passed_behind None passed = passed
passed_behind (Some b) passed = passed - 1

-- The device has passed a byte, and has not failed.
pub record HasPassed {R : Type 0} (r : Reader R) (device : R) : Type 0 where
  pub going : r.has_failed device ≡ false
  pub some : 1 ≤ r.passed device
  pub limit : r.passed device ≤ 2 ^ 62
  pub fails : (total : ℕ) → r.failing device ≡ Behind total → r.passed device ≤ total

-- If a byte waits, the device has passed a byte, and has not failed.
abbrev pub IsWaiting : {R : Type 0} → Reader R → Option ℕ → R → Type 0
IsWaiting r front device = (b : ℕ) → front ≡ Some b → HasPassed r device

-- If there is a next byte, what is left begins with it; otherwise no byte is left.
abbrev pub IsNext : Option ℕ → Option (List ℕ) → Type 0
IsNext None left = IsAtEnd left
IsNext (Some b) None = ⊤
IsNext (Some b) (Some []) = ⊥
IsNext (Some b) (Some (c ∷ left)) = b ≡ c

-- A byte came from the device; or none was left; or the device has failed.
abbrev pub Taken : {R : Type 0} → Reader R → R → Result (Option ℕ) Failed → R → Type 0
Taken r old (Ok None) new = Consumes (r.left old) (r.left new) [] × IsAtEnd (r.left new) × (r.passed new ≡ r.passed old) × (r.has_failed new ≡ false)
Taken r old (Ok (Some b)) new = Consumes (r.left old) (r.left new) (b ∷ []) × (r.passed new ≡ r.passed old + 1) × HasPassed r new
Taken r old (Err e) new = Keeps (r.left old) (r.left new) × (r.passed new ≡ r.passed old) × (r.has_failed new ≡ true)
