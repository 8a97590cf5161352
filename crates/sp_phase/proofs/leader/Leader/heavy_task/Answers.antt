use Rattle.std.proofs.Common.{ap, sym, subst, ◌∙◌}
use Rattle.std.specs.Prelude.{option_to_list}
use Rattle.sp_rounds.specs.declared.task.TaskKind.TheVariants.{Heavy}
use Rattle.sp_phase.specs.Stage.{Learns}
use Rattle.sp_phase.specs.Marks.{notes_of}
use Rattle.sp_phase.specs.Lead.{Lead, MakesDue}
use Rattle.sp_phase.proofs.LeaderHolds.{holds_forgets, leads_holds}
use Rattle.sp_phase.proofs.MadeTasks.{due_none, due_one}
use Rattle.sp_phase.proofs.leader.Leader.heavy_task.Goals as goal

pub invariant_of-self : goal.invariant_of-self
invariant_of-self g c =
    let r = c.self.inside in
    let led = c.self.invariant.1 in
    let m = notes_of c.forget.new.self in
    (c.self.invariant.0, leads_holds g.row.P r.store.now _ r.caller m (holds_forgets g.row.P r.store.now r.caller (notes_of r.marks) m led.holds.stage.graph c.forget.ensures.distances (ap (λ v. v.items) c.forget.ensures.remembered) led.holds) led)

pub returns-in_err-dist : goal.returns-in_err-dist
returns-in_err-dist g c =
    let after = c.read.new.self in
    let reads = c.read.ensures.reads in
    let learns = subst (λ (l : Lead). Learns g.row.P l.stage l.caller after.caller) c.self.view_is reads.learns in
    subst (λ o. MakesDue g.row.P (option_to_list o) c.args.self.now after) (sym c.from_residual.ensures)
    (due_none g.row.P c.args.self.now after (record { stage = ap (λ (l : Lead). l.stage) reads.rest ∙ ap (λ (l : Lead). l.stage) c.self.view_is; learns = learns }))

pub returns : goal.returns
returns g c =
    let after = c.read.new.self in
    let reads = c.read.ensures.reads in
    let learns = subst (λ (l : Lead). Learns g.row.P l.stage l.caller after.caller) c.self.view_is reads.learns in
    due_one g.row.P c.args.vertex c.in_ok-dist.dist c.read.result Heavy c.args.self.now after (record { stage = ap (λ (l : Lead). l.stage) reads.rest ∙ ap (λ (l : Lead). l.stage) c.self.view_is; learns = learns }) c.requires
    c.read.ensures.word (sym c.in_ok-dist.ensures.dist)
