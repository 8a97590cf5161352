use Rattle.std.proofs.Common.{◌≡◌, ◌+◌, ◌-◌, ◌^◌, length, min, refl, arith, ap}
use Rattle.sp_device.proofs.TextSteps.{begun_behind, flushed, sends_ok, sends_failed}
use Rattle.sp_device.proofs.printing.flush.Goals as goal

pub returns-in-Ok-clause-sends : goal.returns-in-Ok-clause-sends
returns-in-Ok-clause-sends g c = λ front start h.
    let sent = h.going c.if-printer.false in
    let counted : c.saturating_add-printer.result ≡ min (c.args.printer.now.count + length c.bytes.result.now) (2 ^ 64 - 1) = omega (arith, c.saturating_add-printer.ensures, c.room_left-len.ensures, ap length c.bytes.ensures) in
    sends_ok g.W.Write front start c.write_all.new.out _ c.if-printer.false
    (flushed g.W.Write front c.bytes.result.now start c.args.out.now c.write_all.new.out c.args.printer.now c.clear-in-Ok.new.self c.saturating_add-printer.result
    sent c.bytes.ensures c.in-Ok.ensures.written c.in-Ok.ensures.passed c.in-Ok.ensures.limit c.clear-in-Ok.ensures counted)

pub returns-in-Err-clause-sends : goal.returns-in-Err-clause-sends
returns-in-Err-clause-sends g c = λ front start h.
    let sent = h.going c.if-printer.false in
    let begun = rw c.bytes.ensures at c.in-Err.ensures.begun in
    sends_failed g.W.Write front start c.write_all.new.out _ refl
    (begun_behind front sent.done c.args.printer.now.block (g.W.Write.written start) (g.W.Write.written c.args.out.now) (g.W.Write.written c.write_all.new.out) sent.parts sent.wrote begun) c.in-Err.ensures.failed
