use Rattle.sp_lists.specs.Matrix.{KeepsListFrom}
use Rattle.sp_lists.specs.ForestQuestion.{AreNoRoots}
use Rattle.sp_lists.proofs.forest.put_no_roots.Given as goal

abbrev pub invariant-loop-place : goal.invariant-loop-place
invariant-loop-place l = record {
  cells : AreNoRoots l.place l.root;
  others : KeepsListFrom l.place l.fn.root l.root;
}
