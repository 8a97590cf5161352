use Rattle.sp_text.specs.Lines.{ended}
use Rattle.sp_text.proofs.Behind.{next_end, lf_ok, lf_err}
use Rattle.sp_text.proofs.feeding.Feeder.end_line.Goals as goal

pub returns-in-Ok : goal.returns-in-Ok
returns-in-Ok g c = λ text small goes h.
    let taken = c.in-Ok.ensures (ended text) h.taken in
    lf_ok g.T.LineTaker.rules g.T.LineTaker.After text (record { taker = c.args.self.now.taker; room = c.args.line.now; ends = c.args.self.now.ends; spent = c.args.self.now.spent }) c.take_line.new.self c.clear.new.self _ small goes h taken.0 taken.1 c.clear.ensures (next_end text c.args.self.now.ends small h.ends)

pub returns-in-Err : goal.returns-in-Err
returns-in-Err g c = λ text small goes h.
    let taken = c.in-Err.ensures (ended text) h.taken in
    (c.refuse.ensures.spent, rw c.refuse.ensures.line (lf_err g.T.LineTaker.rules g.T.LineTaker.After text (record { taker = c.args.self.now.taker; room = c.args.line.now; ends = c.args.self.now.ends; spent = c.args.self.now.spent }) c.in-Err.kind small goes h taken))
