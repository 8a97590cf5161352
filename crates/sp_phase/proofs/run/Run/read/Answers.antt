use Rattle.std.proofs.Common.{Option, ap, sym, subst, ◌∙◌}
use Rattle.sp_phase.specs.Stage.{Learns}
use Rattle.sp_phase.specs.Lead.{Lead}
use Rattle.sp_phase.specs.Progress.{RunProgress, caller_of, MayLead}
use Rattle.sp_phase.specs.Settling.{IsToldBy}
use Rattle.sp_phase.proofs.SettledBuckets.{told_stays}
use Rattle.sp_phase.proofs.run.Run.read.Goals as goal

pub invariant_of-self : goal.invariant_of-self
invariant_of-self g c =
    let here = subst (MayLead c.self.inside.store.now) c.in-Some.is c.self.invariant.1 in
    (c.self.invariant.0, ap (λ (l : Lead). l.stage) c.read.ensures.reads.rest ∙ here)

pub returns-clause-stays : goal.returns-clause-stays
returns-clause-stays g c bucket told =
    let r = c.self.inside in
    let st = r.store.now in
    let l = c.in-Some.leader in
    let B : RunProgress → Type 0 = λ p. IsToldBy g.row.P bucket p in
    let L : Option Lead → Type 0 = λ o. IsToldBy g.row.P bucket (record { stage = st; caller = caller_of o; settled = r.settled; closed = r.closed }) in
    let here = subst (MayLead st) c.in-Some.is c.self.invariant.1 in
    let learns = subst (λ s. Learns g.row.P s l.caller c.read.new.self.caller) here c.read.ensures.reads.learns in
    told_stays g.row.P st c.self.invariant.0 l.caller c.read.new.self.caller learns.falls learns.lawful bucket (subst L c.in-Some.is (subst B (sym c.self.view_is) told))
