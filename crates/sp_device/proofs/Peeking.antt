-- The next byte of a device.
use Rattle.std.proofs.Common.{◌≡◌, ℕ, ◌-◌, ◌<◌, ◌≤◌, List, [], ◌∷◌, length, take, Option, Some, None, Ok, refl, arith}
use Rattle.std.specs.Prelude.{slice_set}
use Rattle.std.specs.Io.KnownBytes.{Consumes}
use Rattle.sp_device.specs.Failing.{Failing, Never, Behind, Anytime, FailsBy}
use Rattle.sp_device.specs.declared.devices.Failed.{Failed}
use Rattle.sp_device.specs.Peeked.{joined}

-- The byte is passed on.
pub passes : (b : ℕ) (buffer : List ℕ) (left : Option (List ℕ)) → 0 < length buffer → Consumes (joined (Some b) left) left (take 1 (slice_set buffer 0 b))
passes b [] left some = absurd (omega (arith, some))
passes b (x ∷ buffer) None some = tt
passes b (x ∷ buffer) (Some left) some = refl

pub may_pass : (failing : Failing) (q : ℕ) → 1 ≤ q → ((total : ℕ) → failing ≡ Behind total → q ≤ total) → FailsBy {T = ℕ} {E = Failed} failing (q - 1) (Ok 1)
may_pass Never q some h = tt
may_pass (Behind total) q some h = omega (arith, some, h total refl)
may_pass Anytime q some h = tt
