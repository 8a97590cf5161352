use Rattle.std.proofs.Common.{[]}
use Rattle.sp_device.proofs.TextSteps.{unsent}
use Rattle.sp_replay.proofs.word_lines.print_words.Goals as goal

pub returns : goal.returns
returns g c =
    let start = c.args.out.now in
    let none = unsent g.W.Write start c.new-printer.result c.new-printer.ensures.block c.new-printer.ensures.count c.new-printer.ensures.going in
    rw (← c.count_reached.ensures.count) (c.send_count.ensures _ start (c.send_words.ensures [] start none))
