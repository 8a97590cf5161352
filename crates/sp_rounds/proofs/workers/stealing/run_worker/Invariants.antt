use Rattle.std.proofs.Common.{◌≡◌}
use Rattle.sp_word.specs.Word.{max_dist}
use Rattle.sp_offer.specs.Order.{lawful}
use Rattle.sp_rounds.specs.Work.{Goes, did, at_start, jobs_of}
use Rattle.sp_rounds.proofs.workers.stealing.run_worker.Given as goal

abbrev pub invariant-loop : goal.invariant-loop
invariant-loop g l =
    (l.done.caller.table ≡ l.round.table.now.id)
    × (l.done.claimer.table ≡ l.round.claims.now)
    × Goes (lawful g.row.P (g.L.Lawful.allows l.round.table.now.law)) (jobs_of (max_dist g.row.P) l.round.rows.now l.round.tasks.now) l.round.number (at_start l.fn.start.caller l.fn.start.claimer) (did l.done)
    × (l.done.started ≡ 1)
