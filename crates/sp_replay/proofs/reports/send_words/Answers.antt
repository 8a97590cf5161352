use Rattle.std.proofs.Common.{◌++◌, take}
use Rattle.sp_replay.specs.ReportText.{reached_from}
use Rattle.sp_replay.proofs.TextPieces.{reached_next}
use Rattle.sp_replay.proofs.reports.send_words.Goals as goal

pub loop-place-preserved : goal.loop-place-preserved
loop-place-preserved g c = λ front start h.
    let words = c.args.words.now in
    let i = c.loop-place.place in
    rw (reached_next front words i c.index-words-place.result c.loop-place-test.true c.index-words-place.is) (c.send_reached.ensures (front ++ reached_from 1 (take i words)) start (c.loop-place.invariant front start h))
