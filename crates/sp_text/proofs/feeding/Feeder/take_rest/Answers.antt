use Rattle.std.proofs.Common.{◌≤◌, ◌^◌, [], ◌∷◌, ◌++◌, length, length-append, arith, refl, ap}
use Rattle.std.proofs.lemmas.Result.{err_from_is_err_and}
use Rattle.sp_text.specs.Lines.{ended}
use Rattle.sp_text.proofs.LineCuts.{ended_at_run}
use Rattle.sp_text.proofs.Behind.{run_ok, run_err, run_open, refusal_lasts}
use Rattle.sp_text.proofs.feeding.Feeder.take_rest.Goals as goal

pub returns-in_err-take_open : goal.returns-in_err-take_open
returns-in_err-take_open g c = λ text small goes none h.
    let p = err_from_is_err_and c.from_residual.result c.from_residual.ensures.1 in
    let told = c.in_err-take_open.ensures text small goes none h in
    rw (p.1, p.2) (told.0, refusal_lasts g.T.LineTaker.rules (ended text) (text ++ c.args.bytes.now) (10 ∷ []) c.in_err-take_open.field-0.0 told.1)

pub returns-then-not-is_empty : goal.returns-then-not-is_empty
returns-then-not-is_empty g c = λ text small goes none h.
    let behind = c.in_ok-take_open.ensures text small goes none h in
    rw (ended_at_run text c.args.bytes.now none) at (c.end_room.ensures (text ++ c.args.bytes.now) small (run_open g.T.LineTaker.rules text c.args.bytes.now none goes) behind)

pub returns-then-bytes-gt-LONGEST_LINE : goal.returns-then-bytes-gt-LONGEST_LINE
returns-then-bytes-gt-LONGEST_LINE g c = λ text small goes none h.
    let shorter : length text ≤ 2 ^ 62 = omega (arith, length-append text c.args.bytes.now) in
    (c.refuse.ensures.spent, rw c.refuse.ensures.line (refusal_lasts g.T.LineTaker.rules (ended text) (text ++ c.args.bytes.now) (10 ∷ []) _ (run_err g.T.LineTaker.rules g.T.LineTaker.After text c.args.bytes.now c.args.self.now shorter none goes h (omega arith))))

pub returns : goal.returns
returns g c = λ text small goes none h.
    let empty = c.if-not-is_empty.ensures in
    rw (ended_at_run text c.args.bytes.now none) at (c.end_line.ensures (text ++ c.args.bytes.now) small (run_open g.T.LineTaker.rules text c.args.bytes.now none goes)
    (run_ok g.T.LineTaker.rules g.T.LineTaker.After text c.args.bytes.now c.args.self.now c.args.bytes.now none goes h (omega (arith, ap length empty)) (rw empty refl)))
