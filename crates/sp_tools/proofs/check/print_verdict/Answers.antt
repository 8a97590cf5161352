use Rattle.std.proofs.Common.{[]}
use Rattle.sp_device.proofs.TextSteps.{unsent}
use Rattle.sp_tools.proofs.check.print_verdict.Goals as goal

pub returns-in-Yes : goal.returns-in-Yes
returns-in-Yes g c =
    let start = c.args.out.now in
    let none = unsent g.W.Write start c.new-printer.result c.new-printer.ensures.block c.new-printer.ensures.count c.new-printer.ensures.going in
    rw (c.in-Yes.is) (c.print_text.ensures [] start none)

pub returns-in-No : goal.returns-in-No
returns-in-No g c =
    let start = c.args.out.now in
    let none = unsent g.W.Write start c.new-printer.result c.new-printer.ensures.block c.new-printer.ensures.count c.new-printer.ensures.going in
    rw (c.in-No.is, ← c.number.ensures)
    (c.print_text-in-No-3.ensures _ start (c.print_number-in-No.ensures _ start (c.print_text-in-No-2.ensures _ start (c.print_number.ensures _ start (c.print_text-in-No.ensures [] start none)))))
