use Rattle.std.proofs.Common.{◌≡◌}
use Rattle.sp_graph.specs.Split.{laid_out, CutsRows}
use Rattle.sp_graph.proofs.rows.Rows.split.Given as goal

abbrev pub invariant-loop-index : goal.invariant-loop-index
invariant-loop-index l = (l.arcs.items ≡ laid_out l.graph.arcs l.delta l.index) × CutsRows l.graph.arcs l.delta l.index l.cuts.items
