use Rattle.std.proofs.Common.{◌≡◌, take}
use Rattle.sp_packed.specs.Words.{sum_on}
use Rattle.sp_packed.proofs.word_sums.Sum.on.Given as goal

abbrev pub invariant-loop-number : goal.invariant-loop-number
invariant-loop-number l = sum_on l.fn.self (take l.number-index l.numbers) ≡ record { first = l.first; second = l.second }
