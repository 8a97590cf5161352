use Rattle.std.proofs.Common.{refl, subst, List, [], length}
use Rattle.sp_word.specs.Word.{max_dist}
use Rattle.sp_offer.specs.Order.{lawful}
use Rattle.sp_bins.specs.declared.entry.Entry.{Entry}
use Rattle.sp_rounds.specs.Work.{jobs_of}
use Rattle.sp_rounds.specs.Left.{RanLeft}
use Rattle.sp_rounds.proofs.CallsInRow.{later_along}
use Rattle.sp_rounds.proofs.Left.{alone_done, done_after}
use Rattle.sp_rounds.proofs.round.run_by_leader.Goals as goal

pub returns-then-not-run_left-clause-refused : goal.returns-then-not-run_left-clause-refused
returns-then-not-run_left-clause-refused g c = later_along _ _ _ _ c.look-caller.ensures.later c.run_left.ensures.later

pub returns-clause-done : goal.returns-clause-done
returns-clause-done g c =
    let round = c.args.round.now in
    let law = lawful g.row.P (g.L.Lawful.allows round.table.now.law) in
    let jobs = jobs_of (max_dist g.row.P) round.rows.now round.tasks.now in
    let looked = c.look-caller in
    done_after law (max_dist g.row.P) round.rows.now round.tasks.now c.args.caller looked.result c.run_left.new.caller c.run_left.new.found.items looked.ensures.later looked.ensures.own
    (alone_done law (max_dist g.row.P) round.rows.now round.tasks.now looked.result c.run_left.new.caller c.run_left.new.found.items
    (subst (λ (bag : List Entry). RanLeft law jobs [] (length round.tasks.now) looked.result c.run_left.new.caller bag c.run_left.new.found.items) c.new-found.ensures.items (c.if-not-run_left.ensures.left refl)))
