-- What comes from a device at a time.
use Rattle.std.specs.Prelude.{◌≡◌, ◌+◌, ◌<◌, ◌≤◌, ◌^◌, ◌⊎◌, ℕ, Bool, true, false, List, length, Option}
use Rattle.std.specs.Io.KnownBytes.{Consumes, IsAtEnd}
use Rattle.sp_device.specs.declared.devices.Read.{Ghosts as Device}
use Rattle.sp_device.specs.Failing.{Never}
use Rattle.sp_parts.specs.declared.receiving.Received.{Received}
use Rattle.sp_parts.specs.declared.receiving.Received.TheVariants.{More, Over, Failed}

-- A device with this result has given `count` bytes; or it has ended, or failed.
abbrev pub EndsAs : (left : Option (List ℕ)) → (has_failed : Bool) → (count : ℕ) → Received → Type 0
EndsAs left has_failed count More = 0 < count
EndsAs left has_failed count Over = IsAtEnd left
EndsAs left has_failed count Failed = has_failed ≡ true

-- The device has given these bytes, with this result.
pub record Brings {R : Type 0} (r : Device R) (old new : R) (bytes : List ℕ) (received : Received) : Type 0 where
  pub bytes_are : Consumes (r.left old) (r.left new) bytes
  pub passed : r.passed new ≡ r.passed old + length bytes
  pub limit : 0 < length bytes → r.passed new ≤ 2 ^ 62
  pub end : EndsAs (r.left new) (r.has_failed new) (length bytes) received
  pub lasting : r.failing new ≡ r.failing old
  pub never : r.failing old ≡ Never → r.has_failed new ≡ false

-- This text has come from a device that had this source left at first, if that is known.
pub record HasCome {R : Type 0} (r : Device R) (source : Option (List ℕ)) (device : R) (text : List ℕ) : Type 0 where
  pub bytes_are : Consumes source (r.left device) text
  pub passed : length text ≤ r.passed device
  pub short : length text ≤ 2 ^ 62

-- This many bytes have come from it.
abbrev pub HasComeTo : {R : Type 0} → Device R → (source : Option (List ℕ)) → (device : R) → (came : ℕ) → Type 0
HasComeTo r source device came = (text : List ℕ) × HasCome r source device text × (length text ≡ came)

-- More has come from the device, with this last result; or the device wasn't read.
abbrev pub ComesOn : {R : Type 0} → Device R → (old new : R) → (came later : ℕ) → (before after : Received) → Type 0
ComesOn r old new came later before after = ((new ≡ old) × (later ≡ came) × (after ≡ before)) ⊎ ((bytes : List ℕ) × Brings r old new bytes after × (later ≡ came + length bytes))

-- After the last result the device has ended, or failed, if the result says so.
abbrev pub HasAnswered : (left : Option (List ℕ)) → (has_failed : Bool) → Received → Type 0
HasAnswered left has_failed More = Unit {0}
HasAnswered left has_failed Over = IsAtEnd left
HasAnswered left has_failed Failed = has_failed ≡ true
