use Rattle.std.proofs.Common.{◌+◌, ◌∙◌, sym, ap, length}
use Rattle.sp_lists.specs.Limits.{reach}
use Rattle.sp_lists.proofs.Blocks.{next_block}
use Rattle.sp_lists.proofs.Rows.{one_row_more, stopped_at}
use Rattle.sp_lists.proofs.matrix.rows_in.Goals as goal

pub returns-in_default : goal.returns-in_default
returns-in_default c =
    let gr = c.args.prepared.graph.now in
    let loop = c.loop-place in
    stopped_at (reach gr.n) gr c.args.sources.now c.args.targets.now loop.place loop.low c.args.dist.now loop.dist c.row_at.new.dist c.row_at.result c.loop-place-test.true
    c.in_default.not-Done loop.invariant.done c.row_at.ensures

pub loop-place-preserved : goal.loop-place-preserved
loop-place-preserved c =
    let gr = c.args.prepared.graph.now in
    let loop = c.loop-place in
    let n = length c.args.targets.now in record {
      at = ap (λ k. k + n) loop.invariant.at ∙ sym (next_block loop.place n);
      done = one_row_more (reach gr.n) gr c.args.sources.now c.args.targets.now loop.place loop.low c.args.dist.now loop.dist c.row_at.new.dist loop.invariant.at loop.invariant.done c.in-Done.ensures;
    }
