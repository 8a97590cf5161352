use Rattle.std.proofs.Common.{length, take}
use Rattle.sp_paths.specs.Paths.{word_at}
use Rattle.sp_graph.specs.LeftOut.{network, IsLeastLeftOut}
use Rattle.sp_graph.proofs.word_table.left_out.Given as goal

abbrev pub invariant-loop-arc : goal.invariant-loop-arc
invariant-loop-arc g l = IsLeastLeftOut (network (length l.words) (take l.arc-index l.arcs)) (word_at l.words) l.far
