use Rattle.std.proofs.Common.{ℕ, refl, subst}
use Rattle.std.specs.Arc.{arc_value}
use Rattle.sp_parts.specs.Parts.{IsAt}
use Rattle.sp_parts.proofs.taking.take_piece.Goals as goal

pub returns-then-is_of : goal.returns-then-is_of
returns-then-is_of g c =
    let piece = c.in-Some.read.piece in
    let there = subst (λ (n : ℕ). IsAt g.O.Origin.text n (arc_value piece.group)) (c.is_of.ensures.place c.if-is_of.true) piece.came in
    (arc_value piece.group, there, c.is_of.ensures.same c.if-is_of.true, c.take_read.ensures)

pub returns : goal.returns
returns g c = (c.args.group.now, c.requires, refl, λ front ps small problem found behind. (rw c.bytes.ensures at c.feed_items.ensures) front small behind)
