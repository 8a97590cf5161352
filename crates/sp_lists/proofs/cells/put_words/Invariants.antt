use Rattle.sp_paths.specs.Paths.{word_at}
use Rattle.sp_lists.specs.Blocks.{slices, AreCells, KeepsOthers}
use Rattle.sp_lists.proofs.cells.put_words.Given as goal

abbrev pub invariant-loop-place : goal.invariant-loop-place
invariant-loop-place g l = record {
  cells : AreCells l.low l.place (word_at l.words) (slices l.dist l.pred);
  others : KeepsOthers l.low l.place (slices l.fn.dist l.fn.pred) (slices l.dist l.pred);
}
