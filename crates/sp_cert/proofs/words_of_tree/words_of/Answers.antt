use Rattle.std.proofs.Common.{arith}
use Rattle.sp_cert.proofs.TreeSteps.{row_in, copied_more}
use Rattle.sp_cert.proofs.words_of_tree.words_of.Goals as goal

pub overflow_sub-row : goal.overflow_sub-row
overflow_sub-row g c = (row_in g.row.P c.args.tree.now c.n-n.ensures.table c.rows-row-items.result.now c.rows-row-items.ensures.rows c.loop-row.row-index c.row-item.result c.loop-row-test.true c.row-item.is).0

pub index_mut-requires : goal.index_mut-requires
index_mut-requires g c =
    let in' = row_in g.row.P c.args.tree.now c.n-n.ensures.table c.rows-row-items.result.now c.rows-row-items.ensures.rows c.loop-row.row-index c.row-item.result c.loop-row-test.true c.row-item.is in
    omega (arith, in', c.loop-row.invariant.size)

pub loop-row-preserved : goal.loop-row-preserved
loop-row-preserved g c =
    copied_more g.row.P c.args.tree.now c.n-n.ensures.table c.rows-row-items.result.now c.rows-row-items.ensures.rows c.loop-row.row-index c.row-item.result c.loop-row-test.true c.row-item.is c.loop-row.words.items c.loop-row.invariant
