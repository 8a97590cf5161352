use Rattle.std.proofs.Common.{◌≡◌, sym, subst, arith}
use Rattle.std.specs.Prelude.{All}
use Rattle.sp_paths.specs.Paths.{IsArc}
use Rattle.sp_paths.specs.Rows.{row_of}
use Rattle.sp_graph.specs.Placed.{none, arcs_in, KeepsRow, KeepsRows}
use Rattle.sp_graph.proofs.PlacedRows.{row_all}
use Rattle.sp_graph.proofs.graph.Graph.few.Goals as goal

pub returns-clause-row : goal.returns-clause-row
returns-clause-row c =
    let g = c.self.inside in
    let kept : KeepsRows g.n g.arcs.items c.in-Some.places.items = rw c.in-Some.is at c.self.invariant.places in
    let is = rw (← c.self.view_is) at c.requires in
    let own : KeepsRow c.args.v c.few_of-few.result (row_of g.arcs.items c.args.v) = rw (c.few_of-few.ensures none, c.deref.ensures.value) (kept.rows c.args.v none is.0 is.1) in
    rw (← c.self.view_is) (own.all (omega (arith, c.if-few-eq0.false)))

pub returns-clause-arcs : goal.returns-clause-arcs
returns-clause-arcs c =
    let g = c.self.inside in
    let kept : KeepsRows g.n g.arcs.items c.in-Some.places.items = rw c.in-Some.is at c.self.invariant.places in
    let is = rw (← c.self.view_is) at c.requires in
    let own : KeepsRow c.args.v c.few_of-few.result (row_of g.arcs.items c.args.v) = rw (c.few_of-few.ensures none, c.deref.ensures.value) (kept.rows c.args.v none is.0 is.1) in
    let row : arcs_in c.args.v c.few_of-few.result ≡ row_of g.arcs.items c.args.v = own.all (omega (arith, c.if-few-eq0.false)) in
    rw (← c.self.view_is) (subst (All (IsArc g.n)) (sym row) (row_all g.n c.args.v g.arcs.items c.self.invariant.graph))
