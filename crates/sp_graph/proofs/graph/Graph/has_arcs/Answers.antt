use Rattle.sp_paths.specs.Rows.{row_of}
use Rattle.sp_graph.specs.Placed.{none, KeepsRow, KeepsRows}
use Rattle.sp_graph.proofs.PlacedRows.{told}
use Rattle.sp_graph.proofs.graph.Graph.has_arcs.Goals as goal

pub returns-in-Some : goal.returns-in-Some
returns-in-Some c =
    let g = c.self.inside in
    let kept : KeepsRows g.n g.arcs.items c.in-Some.places.items = rw c.in-Some.is at c.self.invariant.places in
    let is = rw (← c.self.view_is) at c.requires in
    let own : KeepsRow c.args.v c.few_of.result (row_of g.arcs.items c.args.v) = rw (c.few_of.ensures none, c.deref.ensures.value) (kept.rows c.args.v none is.0 is.1) in
    rw (← c.self.view_is) (told c.args.v c.few_of.result (row_of g.arcs.items c.args.v) own)
