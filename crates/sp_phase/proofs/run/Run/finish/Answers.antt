use Rattle.std.proofs.Common.{ℕ, Option, IfOk, refl, ap, ◌∙◌, subst, arith}
use Rattle.std.specs.Prelude.{IfNone}
use Rattle.sp_offer.specs.Story.{Knowledge, known_table}
use Rattle.sp_answer.specs.Table.{TreeTable}
use Rattle.sp_phase.specs.Stage.{Stage}
use Rattle.sp_phase.specs.Progress.{RunProgress, MayLead}
use Rattle.sp_phase.specs.Sweep.{HasSwept, HasWords}
use Rattle.sp_phase.proofs.run.Run.finish.Goals as goal

pub answer-requires : goal.answer-requires
answer-requires g c =
    let S : Option ℕ → Type 0 = λ o. IfNone o (HasSwept g.row.P c.in-Ok.settled.leader) in
    (omega arith, (omega arith, subst S (c.in-Ok.ensures.whole refl) c.in-Ok.ensures.swept))

pub returns-in-Ok-clause-known : goal.returns-in-Ok-clause-known
returns-in-Ok-clause-known g c =
    let r = c.self.inside in
    let here = subst (MayLead r.store.now) c.in-Some.is c.self.invariant.1 in
    let same = c.in-Ok.ensures.stage ∙ (here ∙ ap (λ (p : RunProgress). p.stage) c.self.view_is) in
    let K : Stage → Type 0 = λ s. IfOk c.answer.result (λ (done : TreeTable × Knowledge). HasWords done.0 s.graph.n (known_table done.1.story)) in
    subst K same c.answer.ensures.known
