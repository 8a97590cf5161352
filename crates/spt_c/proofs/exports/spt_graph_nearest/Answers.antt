use Rattle.std.proofs.Common.{ℕ, Option, refl, sym, subst}
use Rattle.sp_paths.specs.Paths.{Graph}
use Rattle.sp_lists.specs.declared.outcomes.Outcome.TheVariants.{NoGraph}
use Rattle.sp_lists.specs.ForestQuestion.{lists, IsForestOf}
use Rattle.spt_c.specs.KeptLists.{limit_of, IsForestOfKept}
use Rattle.spt_c.proofs.exports.spt_graph_nearest.Goals as goal

pub returns-in-Graph-clause-told : goal.returns-in-Graph-clause-told
returns-in-Graph-clause-told c free =
    let old = lists c.args.dist.now c.args.pred.now c.args.root.now in
    let new = lists c.write_forest.new.dist c.write_forest.new.pred c.write_forest.new.root in
    let told = c.write_forest.result in
    let K : Option Graph → Type 0 = λ k. IsForestOfKept k c.args.sources.now (limit_of c.args.limit) c.args.delta old new told in
    let G : Graph → Type 0 = λ g. IsForestOf g c.args.sources.now (limit_of c.args.limit) c.args.delta old new told in
    let L : Option ℕ → Type 0 = λ limit. IsForestOf c.prepared.result.graph.now c.args.sources.now limit c.args.delta old new told in
    (told, c.of-told.ensures, subst K (sym c.in-Graph.ensures.1) (subst G c.prepared.ensures (subst L c.limit_of.ensures c.write_forest.ensures)))

pub returns-in-Nothing-clause-told : goal.returns-in-Nothing-clause-told
returns-in-Nothing-clause-told c free =
    let there = lists c.args.dist.now c.args.pred.now c.args.root.now in
    let K : Option Graph → Type 0 = λ k. IsForestOfKept k c.args.sources.now (limit_of c.args.limit) c.args.delta there there NoGraph in
    (NoGraph, c.of.ensures, subst K (sym c.in-Nothing.ensures.1) (refl, refl))
