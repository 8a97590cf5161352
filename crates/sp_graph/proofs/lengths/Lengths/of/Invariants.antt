use Rattle.std.proofs.Common.{take}
use Rattle.sp_graph.specs.Lengths.{AreLengths}
use Rattle.sp_graph.proofs.lengths.Lengths.of.Given as goal

abbrev pub invariant-loop-arc : goal.invariant-loop-arc
invariant-loop-arc l = AreLengths (take l.arc-index l.arcs) l.lengths
