use Rattle.std.proofs.Common.{Option, refl, sym, subst}
use Rattle.sp_paths.specs.Paths.{Graph}
use Rattle.sp_lists.specs.declared.outcomes.Outcome.TheVariants.{NoGraph}
use Rattle.sp_lists.specs.Blocks.{slices}
use Rattle.spt_c.specs.KeptLists.{IsPartOfKept}
use Rattle.spt_c.proofs.exports.spt_graph_within.Goals as goal

pub returns-in-Nothing-clause-told : goal.returns-in-Nothing-clause-told
returns-in-Nothing-clause-told c free =
    let there = slices c.args.dist.now c.args.pred.now in
    let K : Option Graph → Type 0 = λ k. IsPartOfKept k c.args.source c.args.limit c.args.delta there there NoGraph in
    (NoGraph, c.of.ensures, subst K (sym c.in-Nothing.ensures.1) (refl, refl))
