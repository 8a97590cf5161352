use Rattle.sp_serial.proofs.PartRows.{ArePushed}
use Rattle.sp_serial.proofs.part.tree_of.Given as goal

abbrev pub invariant-loop-vertex : goal.invariant-loop-vertex
invariant-loop-vertex g l = ArePushed l.source l.limit l.tracked.words.items l.tracked.reached.items l.vertex-index l.tree
