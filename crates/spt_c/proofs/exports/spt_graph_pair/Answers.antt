use Rattle.std.proofs.Common.{Option, Err, refl, sym, subst}
use Rattle.sp_paths.specs.Paths.{Graph}
use Rattle.sp_lists.specs.declared.outcomes.Outcome.TheVariants.{NoGraph}
use Rattle.spt_c.specs.Found.{IsFoundOfKept}
use Rattle.spt_c.proofs.exports.spt_graph_pair.Goals as goal

pub returns-in-Nothing-clause-told : goal.returns-in-Nothing-clause-told
returns-in-Nothing-clause-told c free =
    let K : Option Graph → Type 0 = λ k. IsFoundOfKept k c.args.source c.args.target c.args.delta (Err NoGraph) in
    (Err NoGraph, c.of.ensures, subst K (sym c.in-Nothing.ensures.1) refl)
