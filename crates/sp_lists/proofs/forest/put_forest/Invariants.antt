use Rattle.std.proofs.Common.{◌≤◌, length, drop}
use Rattle.sp_answer.specs.ForestTable.{ForestTable, table_of}
use Rattle.sp_lists.specs.Blocks.{slices, AreCells}
use Rattle.sp_lists.specs.ForestQuestion.{lists, KeepsListsFrom, ArePutRoots}
use Rattle.sp_lists.proofs.forest.put_forest.Given as goal

abbrev pub invariant-rows : goal.invariant-rows
invariant-rows g l =
    let behind : ForestTable = record { n = l.forest.n; rows = drop l.left l.forest.rows } in record {
      within : l.left ≤ length l.forest.rows;
      cells : AreCells 0 l.forest.n (table_of behind) (slices l.dist l.pred);
      roots : ArePutRoots l.forest.n behind l.root;
      others : KeepsListsFrom l.forest.n (lists l.fn.dist l.fn.pred l.fn.root) (lists l.dist l.pred l.root);
    }

abbrev pub decreases-rows : goal.decreases-rows
decreases-rows g l = l.left
