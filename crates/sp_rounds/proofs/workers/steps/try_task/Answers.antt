use Rattle.std.proofs.Common.{refl, ◌<◌, ◌∙◌, sym, ap, arith, length}
use Rattle.sp_word.specs.Word.{max_dist}
use Rattle.sp_offer.specs.Story.{Knowledge}
use Rattle.sp_rounds.specs.Offers.{arcs_of}
use Rattle.sp_rounds.specs.Work.{job_of, jobs_of, numbers_of}
use Rattle.sp_rounds.proofs.WorkerSteps.{slot_at-is, get_or-inside, length-map, goes_same, goes_more, goes_task}
use Rattle.sp_rounds.proofs.workers.steps.try_task.Goals as goal

pub run_task-requires : goal.run_task-requires
run_task-requires g c = (
  omega arith,
  (
    c.requires.number,
    (
      c.requires.ready,
      (
        (λ t. c.task_arcs-arcs.ensures.row ∙ ap (arcs_of c.args.round.now.rows.now) (get_or-inside c.args.round.now.tasks.now c.args.number _ t c.requires.number)),
        (
          c.task_arcs-arcs.ensures.arcs,
          (
            ap (λ (k : Knowledge). k.table) c.take_room.ensures.caller ∙ c.requires.table,
            (
              (let room = c.if-not-take_room.ensures.receipt_fits refl in omega arith),
              (let room = c.if-not-take_room.ensures.entries_fit refl in omega arith),
            ),
          ),
        ),
      ),
    ),
  ),
)

pub returns-in-Some-clause-goes : goal.returns-in-Some-clause-goes
returns-in-Some-clause-goes g c =
    let claimer = c.run_task.ensures.claimer in
    let len = length-map (job_of (max_dist g.row.P) c.args.round.now.rows.now) c.args.round.now.tasks.now in
    let inside : c.args.number < length (jobs_of (max_dist g.row.P) c.args.round.now.rows.now c.args.round.now.tasks.now) = let low = c.requires.number in omega arith in
    goes_more _ _ _ _ _ _ (goes_same _ _ _ _ _ (λ i. record { caller = c.take_room.ensures.caller i; claimer = c.take_room.ensures.claimer i; receipts = numbers_of (c.take_room.ensures.receipts i); found = c.take_room.ensures.found i }))
    (goes_task _ _ _ c.args.number _ _ c.in-Some._grant inside c.run_task.ensures.made c.run_task.ensures.receipt
    (ap (λ h. h.table) claimer ∙ c.claim.ensures.table)
    (ap (λ h. h.grants) claimer ∙ c.in-Some.ensures.granted)
    (c.in-Some.ensures.numbers.0 ∙ sym (slot_at-is (max_dist g.row.P) c.args.round.now.rows.now c.args.round.now.tasks.now c.args.number _ c.requires.number))
    c.in-Some.ensures.numbers.1)
