use Rattle.std.proofs.Common.{◌≡◌, vec_len}
use Rattle.sp_rounds.proofs.workers.stealing.deal.Given as goal

abbrev pub invariant-loop-dealt : goal.invariant-loop-dealt
invariant-loop-dealt l = vec_len l.owners ≡ l.dealt
