use Rattle.std.proofs.Common.{◌∙◌, ap, sym, subst}
use Rattle.sp_phase.specs.Marks.{NotedMarks}
use Rattle.sp_phase.specs.Lead.{Lead}
use Rattle.sp_phase.specs.Running.{Leads}
use Rattle.sp_phase.proofs.leader.Leader.begin_round.Goals as goal

pub invariant_of-self : goal.invariant_of-self
invariant_of-self g c =
    let r = c.self.inside in
    let L : NotedMarks → Lead = λ m. record { stage = r.store.now; caller = r.caller; marks = m; buckets = r.buckets; words = r.words.items } in
    (c.self.invariant.0, subst (λ m. Leads g.row.P r.store.now (L m)) (sym c.begin_round.ensures.notes) c.self.invariant.1)

pub returns : goal.returns
returns g c =
    let r = c.self.inside in
    let L : NotedMarks → Lead = λ m. record { stage = r.store.now; caller = r.caller; marks = m; buckets = r.buckets; words = r.words.items } in
    ap L c.begin_round.ensures.notes ∙ c.self.view_is
