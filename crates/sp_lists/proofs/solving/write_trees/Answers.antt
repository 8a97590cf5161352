use Rattle.std.proofs.Common.{◌+◌, ◌*◌, ◌∙◌, sym, ap}
use Rattle.sp_lists.specs.Limits.{reach}
use Rattle.sp_lists.specs.Blocks.{slices}
use Rattle.sp_lists.proofs.Blocks.{one_more, stopped, next_block}
use Rattle.sp_lists.proofs.solving.write_trees.Goals as goal

pub returns-in_default : goal.returns-in_default
returns-in_default c =
    let gr = c.args.prepared.graph.now in
    let loop = c.loop-place in
    stopped (reach gr.n) gr c.args.sources.now loop.place loop.low (slices c.args.dist.now c.args.pred.now) (slices loop.dist loop.pred)
    (slices c.solve_at.new.dist c.solve_at.new.pred) c.solve_at.result c.loop-place-test.true c.in_default.not-Done loop.invariant.done c.solve_at.ensures

pub loop-place-preserved : goal.loop-place-preserved
loop-place-preserved c =
    let gr = c.args.prepared.graph.now in
    let loop = c.loop-place in record {
      at = ap (λ k. k + c.n-n.result) loop.invariant.at ∙ (ap (λ k. loop.place * gr.n + k) c.n-n.ensures ∙ sym (next_block loop.place gr.n));
      done = one_more (reach gr.n) gr c.args.sources.now loop.place loop.low (slices c.args.dist.now c.args.pred.now) (slices loop.dist loop.pred)
          (slices c.solve_at.new.dist c.solve_at.new.pred) loop.invariant.at loop.invariant.done c.in-Done.ensures;
    }
