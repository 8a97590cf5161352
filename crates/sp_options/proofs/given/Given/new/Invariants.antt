use Rattle.std.proofs.Common.{ℕ, ◌≡◌, ◌<◌, ◌≤◌, Some}
use Rattle.std.specs.Prelude.{slice_get}
use Rattle.sp_options.proofs.given.Given.new.Given as goal

abbrev pub invariant-loop-number : goal.invariant-loop-number
invariant-loop-number l = (k v : ℕ) → k < l.number-index → slice_get l.number-items k ≡ Some v → 1 ≤ v
