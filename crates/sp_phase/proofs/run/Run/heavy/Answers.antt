use Rattle.std.proofs.Common.{Option, ◌∙◌, subst, sym}
use Rattle.sp_phase.specs.Stage.{Learns}
use Rattle.sp_phase.specs.Lead.{Lead}
use Rattle.sp_phase.specs.Progress.{RunProgress, caller_of, MayLead}
use Rattle.sp_phase.specs.Settling.{IsToldBy}
use Rattle.sp_phase.proofs.SettledBuckets.{told_stays}
use Rattle.sp_phase.proofs.run.Run.heavy.Goals as goal

pub invariant_of-self-in-Ok : goal.invariant_of-self-in-Ok
invariant_of-self-in-Ok g c =
    let here = subst (MayLead c.self.inside.store.now) (sym c.in-Some.ensures.value) c.self.invariant.1 in
    (c.self.invariant.0, c.in-Ok.ensures.stage ∙ here)

pub returns-in-Ok-clause-stays : goal.returns-in-Ok-clause-stays
returns-in-Ok-clause-stays g c bucket told =
    let r = c.self.inside in
    let st = r.store.now in
    let l = c.in-Some.leader in
    let here = subst (MayLead st) (sym c.in-Some.ensures.value) c.self.invariant.1 in
    let B : RunProgress → Type 0 = λ p. IsToldBy g.row.P bucket p in
    let L : Option Lead → Type 0 = λ o. IsToldBy g.row.P bucket (record { stage = st; caller = caller_of o; settled = r.settled; closed = r.closed }) in
    let before = subst L (sym c.in-Some.ensures.value) (subst B (sym c.self.view_is) told) in
    let learns = subst (λ s. Learns g.row.P s l.caller c.in-Ok.leader.caller) here c.in-Ok.ensures.learns in
    told_stays g.row.P st c.self.invariant.0 l.caller c.in-Ok.leader.caller learns.falls learns.lawful bucket before
