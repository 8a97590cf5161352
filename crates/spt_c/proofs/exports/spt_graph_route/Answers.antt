use Rattle.std.proofs.Common.{Option, Err, refl, sym, subst}
use Rattle.sp_paths.specs.Paths.{Graph}
use Rattle.sp_lists.specs.declared.outcomes.Outcome.TheVariants.{NoGraph}
use Rattle.spt_c.specs.Routes.{IsRouteOfKept}
use Rattle.spt_c.proofs.exports.spt_graph_route.Goals as goal

pub returns-in-Nothing-clause-told : goal.returns-in-Nothing-clause-told
returns-in-Nothing-clause-told c free =
    let there = c.args.vertices.now in
    let K : Option Graph → Type 0 = λ k. IsRouteOfKept k c.args.source c.args.target there there (Err NoGraph) in
    (Err NoGraph, c.of.ensures, subst K (sym c.in-Nothing.ensures.1) (refl, refl))
