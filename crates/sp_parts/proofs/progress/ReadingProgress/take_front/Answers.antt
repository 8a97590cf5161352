use Rattle.std.proofs.Common.{ℕ, ◌+◌, ◌∙◌, length, sym, ap, arith}
use Rattle.std.specs.Arc.{arc_value}
use Rattle.std.proofs.lemmas.Result.{err_from_is_err_and}
use Rattle.sp_parts.proofs.Holding.{held_order, next_held}
use Rattle.sp_parts.proofs.progress.ReadingProgress.take_front.Goals as goal

pub returns-in_err-take_piece-clause-taken : goal.returns-in_err-take_piece-clause-taken
returns-in_err-take_piece-clause-taken g c =
    let p = err_from_is_err_and c.from_residual.result c.from_residual.ensures.1 in
    let was = c.args.self.now in
    let held = rw c.in-Some.ensures.items at c.requires in
    let told = c.in_err-take_piece.ensures in
    let next = next_held g.O.Origin.text was.taken.bytes c.in-Some.front c.pop_front.new.self.items was.came.bytes told.0 held told.1 (told.2 ∙ ap length c.deref.ensures) in
    rw (p.1, p.2) (told.0, next, told.3)

pub pass-requires : goal.pass-requires
pass-requires g c =
    let was = c.args.self.now in
    let held = rw c.in-Some.ensures.items at c.requires in
    omega (arith, held_order g.O.Origin.text (was.taken.bytes + length (arc_value c.in-Some.front.group)) c.pop_front.new.self.items was.came.bytes held.1, ap length c.deref-2.ensures)

pub returns-clause-taken : goal.returns-clause-taken
returns-clause-taken g c =
    let was = c.args.self.now in
    let held = rw c.in-Some.ensures.items at c.requires in
    let told = c.in_ok-take_piece.ensures in
    let size = told.2 ∙ ap length c.deref.ensures in
    let next = next_held g.O.Origin.text was.taken.bytes c.in-Some.front c.pop_front.new.self.items was.came.bytes told.0 held told.1 size in
    (told.0, next, c.pass.ensures.bytes ∙ ap (λ (n : ℕ). was.taken.bytes + n) (ap length c.deref-2.ensures ∙ sym size), rw c.pass.ensures.reader told.3)
