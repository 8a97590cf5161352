use Rattle.std.proofs.Common.{[], ◌∷◌, ◌++◌, length-append, append_assoc, arith, refl, sym, ◌∙◌}
use Rattle.sp_text.specs.Lines.{ended}
use Rattle.sp_text.specs.Text.{judge}
use Rattle.sp_text.specs.Collecting.{IsAfter}
use Rattle.sp_text.proofs.Behind.{front_ok, front_err}
use Rattle.sp_text.proofs.items.Feeder+Collector+K.take_next.Goals as goal

pub returns-in-Some-Ok-default-clause-taken : goal.returns-in-Some-Ok-default-clause-taken
returns-in-Some-Ok-default-clause-taken g c =
    let took = c.in-Some-Ok-default.ensures in
    let line = took.0 in
    let more = c.in-Some-Ok-default.more.now in
    record {
      front = line ++ 10 ∷ [];
      parts = took.1.1 ∙ sym (append_assoc line (10 ∷ []) more);
      some = omega (arith, length-append line (10 ∷ []));
      read = λ text small h.
          front_ok (judge g.K.Keep.format g.K.Keep.ranges) (λ c' lines. IsAfter g.K.Keep.format g.K.Keep.Kept lines c'.keep c'.problem c'.counts) text c.args.bytes.now line more c.args.self.now c.take_front.new.self _
          took.1.1 took.1.0 took.2 c.if-not-is_empty.ensures refl small h (rw c.in-Some-Ok-default.field-0-0-is at (took.3 (ended text) h.taken)) refl;
    }

pub returns-in-Some-Err-default-clause-refused : goal.returns-in-Some-Err-default-clause-refused
returns-in-Some-Err-default-clause-refused g c = λ text small h.
    let took = c.in-Some-Err-default.ensures in (
      c.refuse.ensures.spent,
      rw c.refuse.ensures.line (front_err (judge g.K.Keep.format g.K.Keep.ranges) (λ c' lines. IsAfter g.K.Keep.format g.K.Keep.Kept lines c'.keep c'.problem c'.counts) text c.args.bytes.now took.0 c.in-Some-Err-default.more.now c.args.self.now c.in-Some-Err-default.kind
          took.1.1 took.1.0 took.2 c.if-not-is_empty.ensures refl small h (rw c.in-Some-Err-default.field-0-0-is at (took.3 (ended text) h.taken))),
    )
