use Rattle.std.proofs.Common.{ℕ, Option, ap, ◌∙◌, sym, subst}
use Rattle.sp_phase.specs.Progress.{MayLead}
use Rattle.sp_phase.specs.Settling.{IsTold, IsLaterBucket}
use Rattle.sp_phase.proofs.run.Run.settle.Goals as goal

pub invariant_of-self-in-Ok : goal.invariant_of-self-in-Ok
invariant_of-self-in-Ok g c =
    let here = subst (MayLead c.self.inside.store.now) (sym c.in-Some.ensures.value) c.self.invariant.1 in
    (c.self.invariant.0, c.in-Ok.ensures.stage ∙ here)

pub returns-in-Ok-clause-told : goal.returns-in-Ok-clause-told
returns-in-Ok-clause-told g c =
    let s = c.in-Ok.settled in
    let here = subst (MayLead c.self.inside.store.now) (sym c.in-Some.ensures.value) c.self.invariant.1 in
    subst (λ x. IsTold g.row.P x s.bucket s.leader.caller) (c.in-Ok.ensures.stage ∙ here) c.in-Ok.ensures.told

pub returns-in-Ok-clause-later : goal.returns-in-Ok-clause-later
returns-in-Ok-clause-later g c =
    let L : Option ℕ → Type 0 = λ closed. IsLaterBucket closed c.in-Ok.settled.bucket in
    subst L (ap (λ p. p.closed) c.self.view_is) c.in-Ok.ensures.later
