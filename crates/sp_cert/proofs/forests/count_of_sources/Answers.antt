use Rattle.std.proofs.Common.{arith, ap}
use Rattle.sp_cert.proofs.ForestRows.{one_if, counted_next, count_fits}
use Rattle.sp_cert.proofs.forests.count_of_sources.Goals as goal
use Rattle.sp_cert.proofs.forests.count_of_sources.Goals.{then-eq, else-eq}

pub overflow_add-count : goal.overflow_add-count
overflow_add-count g c = omega (arith, count_fits c.rows-row-items.result.now c.loop-row.row-index c.loop-row.count c.loop-row-test.true c.loop-row.invariant, c.rows-row-items.type_inv)

pub loop-row-preserved : goal.loop-row-preserved
loop-row-preserved g c =
    counted_next c.rows-row-items.result.now c.loop-row.row-index c.row-item.result c.pred.result c.eq.result c.loop-row.count c.if-eq.count c.loop-row-test.true c.row-item.is c.pred.ensures.pred c.eq.ensures c.loop-row.invariant
    (elim c.if-eq.branch [ then-eq w ↦ omega (arith, w.count-is, ap one_if w.if-eq.true) | else-eq w ↦ omega (arith, w.count-is, ap one_if w.if-eq.false) ])
