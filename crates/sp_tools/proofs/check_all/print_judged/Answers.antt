use Rattle.std.proofs.Common.{codes, decimal}
use Rattle.sp_tools.proofs.VerdictTexts.{seven}
use Rattle.sp_tools.proofs.check_all.print_judged.Goals as goal

pub returns-in-No : goal.returns-in-No
returns-in-No g c = λ front start sending.
    let sent = c.print_text-in-No-4.ensures _ start (c.print_number-in-No-2.ensures _ start (c.print_text-in-No-3.ensures _ start (c.print_number-in-No.ensures _ start (c.print_text-in-No-2.ensures _ start (c.print_number.ensures _ start (c.print_text-in-No.ensures front start sending)))))) in
    rw (c.in-No.is, ← c.number.ensures) (rw (seven front (codes "no ") (decimal c.args.judged.source) (codes " ") (decimal c.in-No.vertex) (codes " ") (decimal c.number.result) (codes "\n")) at sent)
