use Rattle.std.proofs.Common.{◌≤◌, length, drop}
use Rattle.sp_answer.specs.Table.{word_in}
use Rattle.sp_lists.specs.Blocks.{slices, AreCells, KeepsFrom}
use Rattle.sp_lists.proofs.cells.put_cells.Given as goal

abbrev pub invariant-rows : goal.invariant-rows
invariant-rows g l = record {
  within : l.left ≤ length l.tree.rows;
  cells : AreCells 0 l.tree.n (word_in (drop l.left l.tree.rows)) (slices l.dist l.pred);
  others : KeepsFrom l.tree.n (slices l.fn.dist l.fn.pred) (slices l.dist l.pred);
}

abbrev pub decreases-rows : goal.decreases-rows
decreases-rows g l = l.left
