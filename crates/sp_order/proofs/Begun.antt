-- A file that is begun, and comes to its end.
use Rattle.std.proofs.Common.{◌≡◌, refl, ap, arith, ◌+◌, ◌-◌, ℕ, Option, Some, None}
use Rattle.std.specs.Prelude.{option_map}
use Rattle.sp_command.specs.Outputs.{OutputFiles, with_begun, with_ended}

back : (count : Option ℕ) → option_map (λ n. n - 1) (option_map (λ n. n + 1) count) ≡ count
back None = refl
back (Some n) = let same : n + 1 - 1 ≡ n = omega arith in ap Some same

-- Then as many are begun as before.
pub ended_begun : (outputs : OutputFiles) → with_ended (with_begun outputs) ≡ outputs
ended_begun outputs = ap (λ count. record { kept = outputs.kept; begun = count; takes = outputs.takes }) (back outputs.begun)
