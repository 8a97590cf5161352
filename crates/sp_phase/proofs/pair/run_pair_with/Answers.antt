use Rattle.std.proofs.Common.{ℕ, IfOk, subst}
use Rattle.sp_paths.specs.Paths.{Graph}
use Rattle.sp_phase.specs.Pairs.{IsPairAnswer}
use Rattle.sp_phase.proofs.pair.run_pair_with.Goals as goal

pub returns-clause-pair : goal.returns-clause-pair
returns-clause-pair g c =
    let G : Graph → Type 0 = λ x. IfOk c.run_stored_pair.result (IsPairAnswer g.row.P x c.args.source c.args.target) in
    let S : ℕ → Type 0 = λ s. IfOk c.run_stored_pair.result (IsPairAnswer g.row.P c.in_ok-store.store.graph s c.args.target) in
    subst G c.in_ok-store.ensures.store.0 (subst S c.in_ok-store.ensures.store.1 c.run_stored_pair.ensures.pair)
