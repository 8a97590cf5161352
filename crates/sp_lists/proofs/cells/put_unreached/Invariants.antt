use Rattle.sp_word.specs.Word.{Unreached}
use Rattle.sp_lists.specs.Blocks.{slices, AreCells, KeepsFrom}
use Rattle.sp_lists.proofs.cells.put_unreached.Given as goal

abbrev pub invariant-loop-place : goal.invariant-loop-place
invariant-loop-place l = record {
  cells : AreCells 0 l.place (λ v. Unreached) (slices l.dist l.pred);
  others : KeepsFrom l.place (slices l.fn.dist l.fn.pred) (slices l.dist l.pred);
}
