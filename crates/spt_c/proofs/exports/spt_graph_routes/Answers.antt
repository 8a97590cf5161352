use Rattle.std.proofs.Common.{Option, refl, sym, subst}
use Rattle.sp_paths.specs.Paths.{Graph}
use Rattle.sp_lists.specs.declared.outcomes.Outcome.TheVariants.{NoGraph}
use Rattle.sp_lists.specs.Routes.{route_slices}
use Rattle.spt_c.specs.Routes.{AreRoutesOfKept}
use Rattle.spt_c.proofs.exports.spt_graph_routes.Goals as goal

pub returns-in-Nothing-clause-told : goal.returns-in-Nothing-clause-told
returns-in-Nothing-clause-told c free =
    let there = route_slices c.args.dist.now c.args.ends.now c.args.vertices.now in
    let K : Option Graph → Type 0 = λ k. AreRoutesOfKept k c.args.source c.args.targets.now there there NoGraph in
    (NoGraph, c.of.ensures, subst K (sym c.in-Nothing.ensures.1) (refl, refl))
