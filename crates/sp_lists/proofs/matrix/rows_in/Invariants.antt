use Rattle.std.proofs.Common.{◌≡◌, ◌*◌, length}
use Rattle.sp_lists.specs.Limits.{reach}
use Rattle.sp_lists.specs.Matrix.{AreRowsDone}
use Rattle.sp_lists.proofs.matrix.rows_in.Given as goal

abbrev pub invariant-loop-place : goal.invariant-loop-place
invariant-loop-place l = record {
  at : l.low ≡ l.place * length l.targets;
  done : AreRowsDone (reach l.prepared.graph.now.n) l.prepared.graph.now l.sources l.targets l.place l.fn.dist l.dist;
}
