use Rattle.std.proofs.Common.{◌≡◌, [], All, vec_len}
use Rattle.sp_rounds.proofs.ring.empty_slots.Given as goal

abbrev pub invariant-loop : goal.invariant-loop
invariant-loop l = (vec_len l.slots ≡ l.counter) × All (λ slot. slot.items ≡ []) l.slots.items
