use Rattle.std.proofs.Common.{◌≤◌, ◌^◌, length, length-append, ap, arith}
use Rattle.sp_text.proofs.Behind.{run_ok, run_err}
use Rattle.sp_text.proofs.feeding.Feeder.take_open.Goals as goal

pub returns-in-Err : goal.returns-in-Err
returns-in-Err g c = λ text small goes none h.
    let room = c.args.self.now.room in
    let bytes = c.args.bytes.now in
    let shorter : length text ≤ 2 ^ 62 = omega (arith, length-append text bytes) in
    (c.refuse.ensures.spent, rw (c.refuse.ensures.line, c.in-Err.ensures.kind) (run_err g.T.LineTaker.rules g.T.LineTaker.After text bytes c.args.self.now shorter none goes h (omega (arith, c.in-Err.ensures.long, length-append room bytes))))

pub returns-in-Ok : goal.returns-in-Ok
returns-in-Ok g c = λ text small goes none h.
    let room = c.args.self.now.room in
    let bytes = c.args.bytes.now in
    let pushed = c.in-Ok.ensures.pushed in
    run_ok g.T.LineTaker.rules g.T.LineTaker.After text bytes c.args.self.now c.extend_line.new.line none goes h (omega (arith, c.in-Ok.ensures.short, ap length pushed, length-append room bytes)) pushed
