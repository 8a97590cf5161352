use Rattle.std.proofs.Common.{IfOk, ap, ◌∙◌, subst}
use Rattle.sp_phase.specs.Stage.{Stage}
use Rattle.sp_phase.specs.Lead.{Lead}
use Rattle.sp_phase.specs.Pairs.{IsPairAnswer}
use Rattle.sp_phase.proofs.pair.run_stored_pair.Goals as goal

pub returns-in-Ok-advance-clause-pair : goal.returns-in-Ok-advance-clause-pair
returns-in-Ok-advance-clause-pair g c =
    let A : Stage → Type 0 = λ st. IfOk c.pair_answer.result (IsPairAnswer g.row.P st.graph st.source c.args.target) in
    let same = c.in-Ok-advance.ensures.stage ∙ (ap (λ (x : Lead). x.stage) c.with_workers-leader.ensures ∙ c.in-Ok.ensures.stage) in
    subst A same c.pair_answer.ensures.pair
