use Rattle.std.proofs.Common.{[]}
use Rattle.std.specs.List.{flat_map}
use Rattle.sp_device.proofs.TextSteps.{unsent}
use Rattle.sp_tools.specs.Verdicts.{judged_text}
use Rattle.sp_tools.proofs.check_all.write_verdicts.Goals as goal

pub returns : goal.returns
returns g c =
    let start = c.args.out.now in
    let none = unsent g.W.Write start c.new-printer.result c.new-printer.ensures.block c.new-printer.ensures.count c.new-printer.ensures.going in
    c.finish.ensures.written (flat_map judged_text c.args.all.now) start (c.print_verdicts.ensures [] start none)
