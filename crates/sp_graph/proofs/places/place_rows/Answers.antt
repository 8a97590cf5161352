use Rattle.std.proofs.Common.{◌+◌}
use Rattle.sp_graph.proofs.PlacedRows.{row_leaves, keeps_more}
use Rattle.sp_graph.proofs.places.place_rows.Goals as goal

pub loop-index-preserved : goal.loop-index-preserved
loop-index-preserved c =
    let arcs = c.args.graph.now.arcs in
    let v = c.loop-index.index + 1 in
    let own = c.of.ensures c.args.graph.now.n v c.row.ensures.arcs (rw c.row.ensures.row (row_leaves v arcs)) in
    rw c.in_ok-push_few.ensures (keeps_more c.loop-index.index arcs c.loop-index.places.items c.of.result c.loop-index.invariant (rw c.row.ensures.row at own))
