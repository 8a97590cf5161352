use Rattle.std.proofs.Common.{ap, refl, ◌∙◌, arith}
use Rattle.sp_graph.proofs.PlacedRows.{keeps_short, keeps_long}
use Rattle.sp_graph.proofs.place.Few.of.Goals as goal

pub returns-then-row-gt-PLACES : goal.returns-then-row-gt-PLACES
returns-then-row-gt-PLACES c = λ n v arcs tails.
    let is = c.with_first-then-row-gt-PLACES.ensures in
    keeps_long n v c.args.row.now c.with_first-then-row-gt-PLACES.result arcs (ap (λ f. f.first.head) is ∙ ap (λ p. p.head) c.of-first.ensures) (ap (λ f. f.first.len) is)

pub returns : goal.returns
returns c = λ n v arcs tails. keeps_short n v c.args.row.now _ (omega (arith, c.if-row-gt-PLACES.false)) arcs tails (rw (c.of-first.ensures, c.of.ensures, c.of-2.ensures, c.of-3.ensures) refl)
