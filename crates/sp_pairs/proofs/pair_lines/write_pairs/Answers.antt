use Rattle.std.proofs.Common.{[], map, refl}
use Rattle.sp_device.proofs.TextSteps.{unsent}
use Rattle.sp_jobs.specs.PairAnswers.{pairs_text}
use Rattle.sp_pairs.specs.Slots.{known_in}
use Rattle.sp_pairs.proofs.pair_lines.write_pairs.Goals as goal

pub returns-in-Ok : goal.returns-in-Ok
returns-in-Ok g c =
    let start = c.args.out.now in
    let text = pairs_text g.A.PairLine.kind c.args.pairs.now (map g.A.PairLine.told (known_in c.args.slots.now)) in
    let none = unsent g.W.Write start c.new-printer.result c.new-printer.ensures.block c.new-printer.ensures.count c.new-printer.ensures.going in
    let done = c.in-Ok.ensures.written text start (c.send_lines.ensures [] start none) in
    (done.0, record { sources = refl; too_far = c.count_far.ensures; bytes = done.1 })

pub returns-in-Err : goal.returns-in-Err
returns-in-Err g c =
    let start = c.args.out.now in
    let text = pairs_text g.A.PairLine.kind c.args.pairs.now (map g.A.PairLine.told (known_in c.args.slots.now)) in
    let none = unsent g.W.Write start c.new-printer.result c.new-printer.ensures.block c.new-printer.ensures.count c.new-printer.ensures.going in
    c.in-Err.ensures.written text start (c.send_lines.ensures [] start none)
