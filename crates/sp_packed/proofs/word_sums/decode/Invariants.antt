use Rattle.std.proofs.Common.{◌≡◌, ◌*◌, take}
use Rattle.sp_packed.specs.Words.{words}
use Rattle.sp_packed.proofs.word_sums.decode.Given as goal

abbrev pub invariant-loop-i : goal.invariant-loop-i
invariant-loop-i l = words (take l.i l.numbers) ≡ take (4 * l.i) l.bytes
