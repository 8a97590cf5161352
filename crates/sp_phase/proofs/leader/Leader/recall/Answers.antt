use Rattle.std.proofs.Common.{◌≡◌, [], ◌∙◌, ap, sym, subst}
use Rattle.sp_phase.specs.Marks.{NotedMarks, notes_of}
use Rattle.sp_phase.specs.Lead.{Lead, lead_without_memory}
use Rattle.sp_phase.specs.Running.{Leads}
use Rattle.sp_phase.proofs.LeaderHolds.{holds_recalls, leads_holds}
use Rattle.sp_phase.proofs.leader.Leader.recall.Goals as goal

pub invariant_of-self : goal.invariant_of-self
invariant_of-self g c =
    let r = c.self.inside in
    let led = c.self.invariant.1 in
    let L : NotedMarks → Lead = λ m. record { stage = r.store.now; caller = r.caller; marks = m; buckets = r.buckets; words = r.words.items } in
    let none : NotedMarks = record { each = r.marks.each.items; remembered = [] } in
    let is : notes_of c.recall.new.self ≡ none = λ i. record { each = ap (λ v. v.items) c.recall.ensures.each i; remembered = c.recall.ensures.remembered i } in
    (c.self.invariant.0, subst (λ m. Leads g.row.P r.store.now (L m)) (sym is) (leads_holds g.row.P r.store.now _ r.caller none (holds_recalls g.row.P r.store.now r.caller (notes_of r.marks) led.holds) led))

pub returns-clause-vertices : goal.returns-clause-vertices
returns-clause-vertices g c = c.recall.ensures.result ∙ ap (λ l. l.marks.remembered) c.self.view_is

pub returns-clause-marks : goal.returns-clause-marks
returns-clause-marks g c =
    let r = c.self.inside in
    let L : NotedMarks → Lead = λ m. record { stage = r.store.now; caller = r.caller; marks = m; buckets = r.buckets; words = r.words.items } in
    let none : NotedMarks = record { each = r.marks.each.items; remembered = [] } in
    let is : notes_of c.recall.new.self ≡ none = λ i. record { each = ap (λ v. v.items) c.recall.ensures.each i; remembered = c.recall.ensures.remembered i } in
    ap L is ∙ ap lead_without_memory c.self.view_is
