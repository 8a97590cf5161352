use Rattle.std.proofs.Common.{◌++◌, ap, refl, ◌∙◌}
use Rattle.std.proofs.lemmas.List.{append-nil}
use Rattle.sp_device.proofs.TextSteps.{begun_behind, written_on, sends_ok, sends_failed}
use Rattle.sp_device.proofs.printing.write_on.Goals as goal

pub returns-in-Ok : goal.returns-in-Ok
returns-in-Ok g c = λ front start h.
    sends_ok g.W.Write (front ++ c.args.bytes.now) start c.write_all.new.out _ c.if-printer.false
    (written_on g.W.Write front c.args.bytes.now start c.args.out.now c.write_all.new.out c.args.printer.now c.saturating_add-printer.result
    (h.going c.if-printer.false) c.requires c.in-Ok.ensures.written c.in-Ok.ensures.passed c.in-Ok.ensures.limit c.saturating_add-printer.ensures)

pub returns-in-Err : goal.returns-in-Err
returns-in-Err g c = λ front start h.
    let sent = h.going c.if-printer.false in
    let bytes = c.args.bytes.now in
    sends_failed g.W.Write (front ++ bytes) start c.write_all.new.out _ refl
    (begun_behind (front ++ bytes) sent.done bytes (g.W.Write.written start) (g.W.Write.written c.args.out.now) (g.W.Write.written c.write_all.new.out) (ap (λ t. t ++ bytes) (sent.parts ∙ rw c.requires (append-nil sent.done))) sent.wrote c.in-Err.ensures.begun) c.in-Err.ensures.failed
