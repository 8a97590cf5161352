use Rattle.std.proofs.Common.{[]}
use Rattle.sp_device.proofs.TextSteps.{unsent}
use Rattle.sp_replay.proofs.TextPieces.{report_is}
use Rattle.sp_replay.proofs.reports.print_report.Goals as goal

pub returns : goal.returns
returns g c =
    let start = c.args.out.now in
    let none = unsent g.W.Write start c.new-printer.result c.new-printer.ensures.block c.new-printer.ensures.count c.new-printer.ensures.going in
    rw (report_is c.args.report.now c.deref.result.now c.deref-2.result.now c.deref.ensures.value c.deref-2.ensures.value) (c.send_end.ensures _ start (c.send_words.ensures _ start (c.send_calls.ensures [] start none)))
