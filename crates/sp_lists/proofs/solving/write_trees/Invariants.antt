use Rattle.std.proofs.Common.{◌≡◌, ◌*◌}
use Rattle.sp_lists.specs.Limits.{reach}
use Rattle.sp_lists.specs.Blocks.{slices, AreDone}
use Rattle.sp_lists.proofs.solving.write_trees.Given as goal

abbrev pub invariant-loop-place : goal.invariant-loop-place
invariant-loop-place l = record {
  at : l.low ≡ l.place * l.prepared.graph.now.n;
  done : AreDone (reach l.prepared.graph.now.n) l.prepared.graph.now l.sources l.place (slices l.fn.dist l.fn.pred) (slices l.dist l.pred);
}
