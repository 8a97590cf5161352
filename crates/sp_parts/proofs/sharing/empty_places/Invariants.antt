use Rattle.std.proofs.Common.{◌≡◌, vec_len}
use Rattle.sp_parts.proofs.sharing.empty_places.Given as goal

abbrev pub invariant-loop : goal.invariant-loop
invariant-loop g l = vec_len l.places ≡ l.counter
