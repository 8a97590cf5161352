use Rattle.std.proofs.Common.{ℕ, inr, subst}
use Rattle.sp_lists.specs.Limits.{reach}
use Rattle.sp_lists.specs.Blocks.{slices, AreSolved}
use Rattle.spt_c.specs.Arcs.{graph_of}
use Rattle.spt_c.specs.Asked.{asked, IsGood}
use Rattle.spt_c.proofs.Same.{same_solved}
use Rattle.spt_c.proofs.calls.solve.Goals as goal

pub returns-in-Ok : goal.returns-in-Ok
returns-in-Ok c =
    let old = slices c.args.dist.now c.args.pred.now in
    let new = slices c.write_trees.new.dist c.write_trees.new.pred in
    let S : ℕ → Type 0 = λ n. AreSolved (reach n) c.in-Ok.graph c.args.question.now.sources.now old new c.write_trees.result in
    inr (record {
      good = subst (IsGood (asked c.args.question.now.arcs.now c.args.question.now.n c.args.question.now.sources.now c.args.question.now.delta)) c.min-places.ensures c.in_default.ensures.good;
      solved = same_solved (reach c.args.question.now.n) c.in-Ok.graph (graph_of c.args.question.now.n c.args.question.now.arcs.now) c.args.question.now.sources.now old new c.write_trees.result c.in-Ok.ensures.same
          (subst S c.in-Ok.ensures.same.n c.write_trees.ensures);
    })
