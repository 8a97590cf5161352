-- When a device fails.
use Rattle.std.specs.Prelude.{◌≡◌, ◌<◌, ℕ, ⊤, Result, Ok, Err}

-- A device never fails; or it fails exactly when a given total number of bytes has passed; or it may fail at any time.
pub data Failing : Type 0 where
  Never : Failing
  Behind : ℕ → Failing
  Anytime : Failing

-- A device that fails so may give this result to a call for some bytes, after it has passed a given number of bytes.
abbrev pub FailsBy : {T E : Type 0} → Failing → ℕ → Result T E → Type 0
FailsBy Never passed (Ok answer) = ⊤
FailsBy Never passed (Err e) = ⊥
FailsBy (Behind total) passed (Ok answer) = passed < total
FailsBy (Behind total) passed (Err e) = passed ≡ total
FailsBy Anytime passed result = ⊤
