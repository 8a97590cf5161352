use Rattle.std.proofs.Common.{List, ◌++◌, refl, ap, sym, subst, ◌∙◌, arith}
use Rattle.std.specs.Prelude.{All}
use Rattle.std.specs.List.Sorted.{IsPermutation}
use Rattle.sp_bins.specs.declared.entry.Entry.{Entry}
use Rattle.sp_phase.specs.Marks.{notes_of}
use Rattle.sp_phase.specs.Rounds.{IsDue}
use Rattle.sp_phase.specs.Lead.{Lead, GoesOn, lead_of}
use Rattle.sp_phase.proofs.LeaderHolds.{round_leads}
use Rattle.sp_phase.proofs.leader.Leader.run_tasks.Goals as goal

pub relax_tasks-requires-after_bounds : goal.relax_tasks-requires-after_bounds
relax_tasks-requires-after_bounds g c κs within =
    let st = c.self.inside.store.now in
    let due = subst (λ (l : Lead). All (IsDue g.row.P l.stage) c.args.tasks.items) (sym c.self.view_is) c.requires in
    (omega arith, (c.self.invariant.1.holds.table, (c.self.invariant.0, subst (λ ts. All (IsDue g.row.P st) ts) (sym c.as_slice-list.ensures.value) due)))

pub invariant_of-result : goal.invariant_of-result
invariant_of-result g c =
    let r = c.self.inside in
    let out = c.in_ok-out.out in
    let q = c.put_all.new.buckets in
    let M : List Entry → Type 0 = λ es. IsPermutation (r.buckets.entries ++ es) q.entries in
    let moved = subst M c.as_slice.ensures.value c.in_ok-put_all.ensures.all in (
      c.in_ok-out.ensures.claimer ∙ c.self.invariant.0,
      round_leads g.row.P r.store.now c.as_slice-list.result.now _ out.caller (notes_of c.write.new.self) q out.found.items c.self.invariant.1 c.in_ok-out.ensures.done c.write.ensures.running (ap (λ v. v.items) c.write.ensures.remembered) c.put_all.ensures.width moved,
    )

pub returns : goal.returns
returns g c =
    let r = c.self.inside in
    let later = c.in_ok-out.ensures.done.later in
    let before : Lead = lead_of r.store.now r.caller r.marks r.buckets r.words.items in
    let after : Lead = lead_of r.store.now c.in_ok-out.out.caller c.write.new.self c.put_all.new.buckets r.words.items in
    let goes : GoesOn g.row.P before after = record { stage = refl; learns = record { table = later.table; falls = later.falls; lawful = later.stays c.self.invariant.1.holds.running.lawful } } in
    subst (λ (l : Lead). GoesOn g.row.P l after) c.self.view_is goes
