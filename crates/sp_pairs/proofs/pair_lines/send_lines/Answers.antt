use Rattle.std.proofs.Common.{arith}
use Rattle.sp_files.proofs.SentRows.{both_sent}
use Rattle.sp_pairs.proofs.PairLines.{lines_more, sent_all}
use Rattle.sp_pairs.proofs.pair_lines.send_lines.Goals as goal

pub loop-place-preserved : goal.loop-place-preserved
loop-place-preserved g c =
    both_sent g.W.Write _ _ _ _ _ _ _ _ _ c.loop-place.invariant c.send_line.ensures
    (lines_more g.A.PairLine.kind g.A.PairLine.told c.args.pairs.now c.args.slots.now c.loop-place.place c.index-slots-place.result c.index-slots-place.is c.requires.size c.loop-place-test.true)

pub returns : goal.returns
returns g c =
    sent_all g.A.PairLine.kind g.A.PairLine.told g.W.Write c.args.pairs.now c.args.slots.now c.loop-place.place c.args.out.now c.loop-place.out c.args.printer.now c.loop-place.printer c.requires.size c.requires.closed (omega (arith, c.loop-place-test.false)) c.loop-place.invariant
