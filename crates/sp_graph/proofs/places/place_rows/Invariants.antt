use Rattle.sp_graph.specs.Placed.{KeepsRows}
use Rattle.sp_graph.proofs.places.place_rows.Given as goal

abbrev pub invariant-loop-index : goal.invariant-loop-index
invariant-loop-index l = KeepsRows l.index l.graph.arcs l.places.items
