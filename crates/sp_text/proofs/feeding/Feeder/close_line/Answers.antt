use Rattle.std.proofs.Common.{sym}
use Rattle.sp_text.proofs.Behind.{closed_whole, told_unfinished, closed_open, open_behind}
use Rattle.sp_text.proofs.feeding.Feeder.close_line.Goals as goal

pub returns-then-is_empty : goal.returns-then-is_empty
returns-then-is_empty g c = λ text small h. closed_whole g.T.LineTaker.rules g.T.LineTaker.After text c.args.self.now h c.if-is_empty.ensures

pub returns-then-needs_lf : goal.returns-then-needs_lf
returns-then-needs_lf g c = λ text small h.
    (c.refuse.ensures.spent, rw c.refuse.ensures.line (told_unfinished g.T.LineTaker.rules g.T.LineTaker.After text c.args.self.now small (sym c.if-needs_lf.ensures) h c.if-is_empty.ensures))

pub returns : goal.returns
returns g c = λ text small h.
    closed_open g.T.LineTaker.rules g.T.LineTaker.After text c.args.self.now c.end_room.new.self c.end_room.result (sym c.if-needs_lf.ensures) h c.if-is_empty.ensures
    (c.end_room.ensures text small (open_behind g.T.LineTaker.rules g.T.LineTaker.After text c.args.self.now h c.if-is_empty.ensures) h)
