use Rattle.std.proofs.Common.{◌≤◌, ◌^◌, ◌++◌, length, take, arith}
use Rattle.std.specs.Prelude.{slice_range}
use Rattle.std.proofs.lemmas.Result.{err_from_is_err_and}
use Rattle.sp_text.specs.Text.{judge}
use Rattle.sp_parts.proofs.TextParts.{front_short, front_slice, front_refused, problem_lasts}
use Rattle.sp_parts.proofs.taking.take_part.Goals as goal

pub returns-in_err-feed_items-clause-refused : goal.returns-in_err-feed_items-clause-refused
returns-in_err-feed_items-clause-refused g c =
    let p = err_from_is_err_and c.from_residual.result c.from_residual.ensures.1 in
    let text = c.args.text.now in
    let done = c.args.done in
    let from = c.args.part.now.from in
    rw (p.1, p.2) (λ front small h.
    let at_from = front_slice front text done from c.if-part-done.false (omega arith) in
    let short : length (front ++ take done text ++ slice_range text done from) ≤ 2 ^ 62 = rw at_from (front_short front text from (omega arith) small) in
    let told = c.in_err-feed_items.ensures (front ++ take done text) short h in
    (told.0, front_refused (judge g.K.Keep.format g.K.Keep.ranges) front text done from c.in_err-feed_items.field-0.0 (rw at_from at told.1)))

pub returns-then-add_lines-clause-taken : goal.returns-then-add_lines-clause-taken
returns-then-add_lines-clause-taken g c = λ front ps small problem part h.
    let text = c.args.text.now in
    let done = c.args.done in
    let from = c.args.part.now.from in
    let to = c.args.part.now.to in
    let at_from = front_slice front text done from c.if-part-done.false (omega arith) in
    let short : length (front ++ take done text ++ slice_range text done from) ≤ 2 ^ 62 = rw at_from (front_short front text from (omega arith) small) in
    let fed = rw at_from at (c.in_ok-feed_items.ensures (front ++ take done text) short h) in
    let whole = front_slice front text from to part.order part.within in
    rw whole at (c.if-add_lines.ensures (front ++ take from text) (slice_range text from to) ps (rw whole (front_short front text to part.within small)) (problem_lasts g.K.Keep.format ps front (take from text) problem) part.block fed)

pub returns-else-add_lines-clause-taken : goal.returns-else-add_lines-clause-taken
returns-else-add_lines-clause-taken g c = λ front ps small problem part h.
    let text = c.args.text.now in
    let done = c.args.done in
    let from = c.args.part.now.from in
    let to = c.args.part.now.to in
    let at_from = front_slice front text done from c.if-part-done.false (omega arith) in
    let short : length (front ++ take done text ++ slice_range text done from) ≤ 2 ^ 62 = rw at_from (front_short front text from (omega arith) small) in
    let fed = rw at_from at (c.in_ok-feed_items.ensures (front ++ take done text) short h) in
    let whole = front_slice front text from to part.order part.within in
    c.if-add_lines.ensures (front ++ take from text) (slice_range text from to) ps (rw whole (front_short front text to part.within small)) (problem_lasts g.K.Keep.format ps front (take from text) problem) part.block fed
