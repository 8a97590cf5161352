use Rattle.std.proofs.Common.{◌≡◌, ◌≤◌, ◌^◌, ℕ, List, [], ◌∷◌, ◌++◌, length, length-append, append_assoc, arith, sym, ap, ◌∙◌}
use Rattle.std.proofs.lemmas.Result.{err_from_is_err_and}
use Rattle.sp_text.specs.Lines.{ended}
use Rattle.sp_text.proofs.Behind.{closed_run, lf_whole, refusal_lasts}
use Rattle.sp_text.proofs.feeding.Feeder.take_run.Goals as goal

short_line : (text bytes line more : List ℕ) → bytes ≡ line ++ 10 ∷ more → length (text ++ bytes) ≤ 2 ^ 62 → length (text ++ line) ≤ 2 ^ 62
short_line text bytes line more is small = omega (arith, length-append text bytes, length-append text line, ap length is, length-append line (10 ∷ more))

pub returns-then-is_closed-clause-refused : goal.returns-then-is_closed-clause-refused
returns-then-is_closed-clause-refused g c = λ text small h.
    let shorter : length text ≤ 2 ^ 62 = omega (arith, length-append text c.args.bytes.now) in
    (c.refuse.ensures.spent, rw c.refuse.ensures.line (closed_run g.T.LineTaker.rules g.T.LineTaker.After text c.args.bytes.now c.args.self.now shorter c.requires (sym (c.if-is_closed.ensures (ended text) h.taken)) h))

pub returns-in_err-take_rest-clause-refused : goal.returns-in_err-take_rest-clause-refused
returns-in_err-take_rest-clause-refused g c =
    let p = err_from_is_err_and c.from_residual-in_err-take_rest.result c.from_residual-in_err-take_rest.ensures.1 in
    let bytes = c.args.bytes.now in
    let line = c.in-Some.line.now in
    let more = c.in-Some.more.now in
    let found = c.in-Some.ensures in
    rw (p.1, p.2) (λ text small h.
    let told = c.in_err-take_rest.ensures text (short_line text bytes line more found.1 small) (sym (c.if-is_closed.ensures (ended text) h.taken)) found.0 h in
    (told.0, rw (← lf_whole text bytes line more found.1) (refusal_lasts g.T.LineTaker.rules (ended text) (text ++ line ++ 10 ∷ []) more c.in_err-take_rest.field-0.0 told.1)))

pub returns-clause-taken : goal.returns-clause-taken
returns-clause-taken g c =
    let bytes = c.args.bytes.now in
    let line = c.in-Some.line.now in
    let more = c.in-Some.more.now in
    let found = c.in-Some.ensures in
    record {
      front = line ++ 10 ∷ [];
      parts = found.1 ∙ sym (append_assoc line (10 ∷ []) more);
      some = omega (arith, length-append line (10 ∷ []));
      read = λ text small h.
          rw (← append_assoc text line (10 ∷ [])) (c.in_ok-take_rest.ensures text (short_line text bytes line more found.1 small) (sym (c.if-is_closed.ensures (ended text) h.taken)) found.0 h);
    }
