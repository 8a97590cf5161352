use Rattle.std.proofs.Common.{◌≡◌, List, [], length, sym, subst, ◌∙◌, arith}
use Rattle.std.specs.Prelude.{All}
use Rattle.std.proofs.lemmas.Bool.{eqb-true}
use Rattle.sp_word.specs.Word.{Word}
use Rattle.sp_bins.specs.declared.entry.Entry.{Entry}
use Rattle.sp_rounds.proofs.EntryPlaces.{empty_is}
use Rattle.sp_phase.specs.declared.marks.LeaderMark.{LeaderMark}
use Rattle.sp_phase.specs.Lead.{Lead, lead_of}
use Rattle.sp_phase.specs.Sweep.{IsOpen, AreRelaxed, HasCopied}
use Rattle.sp_phase.proofs.CopiedWords.{leads_opened}
use Rattle.sp_phase.proofs.leader.Leader.queue_open.Goals as goal

pub invariant_of-self : goal.invariant_of-self
invariant_of-self g c =
    let r = c.self.inside in
    let found = c.in_ok-open.open.items in
    let l : Lead = lead_of r.store.now r.caller r.marks r.buckets r.words.items in
    let O : List Word → List LeaderMark → Type 0 = λ w m. All (IsOpen w m c.args.bounds) found in
    let all = subst (λ m. O r.words.items m) c.as_slice-marks.ensures.value (subst (λ w. O w c.as_slice-marks.result.now) c.as_slice.ensures.value c.in_ok-open.ensures.open) in
    let copied = subst (HasCopied g.row.P) (sym c.self.view_is) c.take_copy.ensures.copied in
    let put = c.put_all.ensures in
    (c.self.invariant.0, leads_opened g.row.P l c.put_all.new.buckets c.args.bounds found c.as_slice-2.result.now put.some.0 copied c.as_slice-2.ensures.value all put.width put.some.1 c.self.invariant.1)

pub invariant_of-self-2 : goal.invariant_of-self-2
invariant_of-self-2 g c =
    let r = c.self.inside in
    let found = c.in_ok-open.open.items in
    let l : Lead = lead_of r.store.now r.caller r.marks r.buckets r.words.items in
    let O : List Word → List LeaderMark → Type 0 = λ w m. All (IsOpen w m c.args.bounds) found in
    let all = subst (λ m. O r.words.items m) c.as_slice-marks.ensures.value (subst (λ w. O w c.as_slice-marks.result.now) c.as_slice.ensures.value c.in_ok-open.ensures.open) in
    let copied = subst (HasCopied g.row.P) (sym c.self.view_is) c.take_copy.ensures.copied in
    let put = c.put_all.ensures in
    (c.self.invariant.0, leads_opened g.row.P l c.put_all.new.buckets c.args.bounds found c.as_slice-2.result.now put.some.0 copied c.as_slice-2.ensures.value all put.width put.some.1 c.self.invariant.1)

pub returns-clause-none : goal.returns-clause-none
returns-clause-none g c is =
    let r = c.self.inside in
    let found = c.in_ok-open.open.items in
    let none : c.in_ok-open.open.len ≡ 0 = eqb-true c.in_ok-open.open.len 0 (sym c.is_empty.ensures ∙ is) in
    let size : c.in_ok-open.open.len ≡ length found = c.in_ok-open.open.ok.0 in
    let empty : found ≡ [] = empty_is (λ (e : Entry). Unit {0}) found (omega arith) in
    let A : List Word → List LeaderMark → Type 0 = λ w m. AreRelaxed w m c.args.bounds (length w) in
    subst (λ m. A r.words.items m) c.as_slice-marks.ensures.value (subst (λ w. A w c.as_slice-marks.result.now) c.as_slice.ensures.value (c.in_ok-open.ensures.none empty))
