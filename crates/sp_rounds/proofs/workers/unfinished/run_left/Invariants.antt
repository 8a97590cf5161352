use Rattle.std.proofs.Common.{◌≡◌}
use Rattle.sp_word.specs.Word.{max_dist}
use Rattle.sp_offer.specs.Order.{lawful}
use Rattle.sp_rounds.specs.Work.{jobs_of}
use Rattle.sp_rounds.specs.Left.{RanLeft}
use Rattle.sp_rounds.proofs.workers.unfinished.run_left.Given as goal

abbrev pub invariant-loop-number : goal.invariant-loop-number
invariant-loop-number g l =
    (l.caller.table ≡ l.fn.caller.table)
    × RanLeft (lawful g.row.P (g.L.Lawful.allows l.round.table.now.law)) (jobs_of (max_dist g.row.P) l.round.rows.now l.round.tasks.now) l.marks l.number l.fn.caller l.caller l.fn.found.items l.found.items
