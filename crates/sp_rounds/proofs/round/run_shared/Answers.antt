use Rattle.std.proofs.Common.{rules, refl, sym, ap, ◌∙◌, ℕ, length, subst, List, Bool, vec_len}
use Rattle.sp_word.specs.Word.{max_dist}
use Rattle.sp_offer.specs.Order.{lawful}
use Rattle.sp_rounds.specs.Work.{job_of, jobs_of, did, numbers_of}
use Rattle.sp_rounds.specs.Left.{IsMarked}
use Rattle.sp_rounds.proofs.WorkerSteps.{length-map}
use Rattle.sp_rounds.proofs.CallsInRow.{later_along}
use Rattle.sp_rounds.proofs.Both.{refused_after}
use Rattle.sp_rounds.proofs.Left.{once, below, round_done, done_after}
use Rattle.sp_rounds.proofs.round.run_shared.Goals as goal

pub returns-in_err-done-clause-refused : goal.returns-in_err-done-clause-refused
returns-in_err-done-clause-refused g c = refused_after _ _ _ _ c.look.ensures.later (search rules)

pub returns-then-not-run_left-clause-refused : goal.returns-then-not-run_left-clause-refused
returns-then-not-run_left-clause-refused g c =
    later_along _ _ _ _ c.look.ensures.later (later_along _ _ _ _ c.in_ok-done.ensures.0.made.later c.run_left.ensures.later)

pub mark-requires-clause-below : goal.mark-requires-clause-below
mark-requires-clause-below g c =
    let round = c.args.round.now in
    let len = length-map (job_of (max_dist g.row.P) round.rows.now) round.tasks.now in
    below _ _ _ _ _ _ (numbers_of c.as_slice-2.result.now) (len ∙ sym c.requires.len) (ap numbers_of c.as_slice-2.ensures.value) refl c.in_ok-done.ensures.0

pub returns-clause-done : goal.returns-clause-done
returns-clause-done g c =
    let round = c.args.round.now in
    let law = lawful g.row.P (g.L.Lawful.allows round.table.now.law) in
    let jobs = jobs_of (max_dist g.row.P) round.rows.now round.tasks.now in
    let goes = c.in_ok-done.ensures.0 in
    let same = ap numbers_of c.as_slice-2.ensures.value in
    let one = once law jobs round.number _ (did c.in_ok-done.done) (numbers_of c.as_slice-2.result.now) c.check.new.claimer.grants same goes refl (ap (λ h. h.grants) c.check.ensures.same) c.check.ensures.once in
    let marked : IsMarked (length round.tasks.now) (numbers_of c.as_slice-2.result.now) c.as_slice-3.result.now =
    subst (λ (n : ℕ). IsMarked n (numbers_of c.as_slice-2.result.now) c.as_slice-3.result.now) c.requires.len
    (subst (λ (ms : List Bool). IsMarked (vec_len c.args.prepared.marks) (numbers_of c.as_slice-2.result.now) ms) (sym c.as_slice-3.ensures.value) c.mark.ensures) in
    done_after law (max_dist g.row.P) round.rows.now round.tasks.now c.args.tokens.caller c.look.result c.run_left.new.caller c.run_left.new.found.items c.look.ensures.later c.look.ensures.own
    (round_done law (max_dist g.row.P) round.rows.now round.tasks.now round.number c.look.result c.run_left.new.caller c.args.tokens.claimer (did c.in_ok-done.done) (numbers_of c.as_slice-2.result.now) c.as_slice-3.result.now
    c.run_left.new.found.items same one marked goes (c.if-not-run_left.ensures.left refl))
