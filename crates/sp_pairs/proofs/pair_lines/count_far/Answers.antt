use Rattle.std.proofs.Common.{arith}
use Rattle.sp_pairs.proofs.PairLines.{count_all}
use Rattle.sp_pairs.proofs.pair_lines.count_far.Goals as goal

pub returns : goal.returns
returns g c = count_all g.A.PairLine.kind g.A.PairLine.told c.args.slots.now c.loop-slot.slot-index c.loop-slot.count (omega (arith, c.loop-slot-test.false)) c.loop-slot.invariant.0
