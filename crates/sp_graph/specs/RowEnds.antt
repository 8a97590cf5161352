-- Arcs in order, and where their rows end.
use Rattle.std.specs.Prelude.{ℕ, List}
use Rattle.sp_paths.specs.declared.arc.Arc.{Arc}
use Rattle.sp_graph.specs.Order.{IsInOrder}
use Rattle.sp_graph.specs.Index.{IsIndex}
use Rattle.sp_graph.specs.Lengths.{AreLengths}
use Rattle.sp_graph.specs.declared.graph.RowEnds.{RowEnds}

-- The arcs are in order, and these are the ends of their rows and their lengths.
pub record AreRowEnds (n : ℕ) (arcs : List Arc) (rows : RowEnds) : Type 0 where
  pub order : IsInOrder arcs
  pub index : IsIndex n arcs rows.ends.items
  pub lengths : AreLengths arcs rows.lengths
