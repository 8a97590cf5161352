use Rattle.std.proofs.Common.{take}
use Rattle.sp_device.specs.Printing.{Sends}
use Rattle.sp_pairs.proofs.PairLines.{lines_in}
use Rattle.sp_pairs.proofs.pair_lines.send_lines.Given as goal

abbrev pub invariant-loop-place : goal.invariant-loop-place
invariant-loop-place g l = Sends g.W.Write (lines_in g.A.PairLine.kind g.A.PairLine.told (take l.place l.pairs) (take l.place l.slots)) l.fn.out l.fn.printer l.out l.printer
