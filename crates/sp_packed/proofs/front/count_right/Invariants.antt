use Rattle.std.proofs.Common.{ℕ, ◌<◌, get_or}
use Rattle.sp_packed.specs.Reading.{IsFrontWord}
use Rattle.sp_packed.proofs.front.count_right.Given as goal

abbrev pub invariant-loop-k : goal.invariant-loop-k
invariant-loop-k l = (j : ℕ) → j < l.k → IsFrontWord l.top l.most_arcs j (get_or l.numbers j 0)
