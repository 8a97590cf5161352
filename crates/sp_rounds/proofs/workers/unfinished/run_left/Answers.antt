use Rattle.std.proofs.Common.{◌∙◌, sym, refl}
use Rattle.sp_word.specs.Word.{max_dist}
use Rattle.sp_offer.specs.Order.{lawful}
use Rattle.sp_rounds.specs.Work.{jobs_of}
use Rattle.sp_rounds.proofs.Arcs.{task_made}
use Rattle.sp_rounds.proofs.Left.{left_none, left_more}
use Rattle.sp_rounds.proofs.workers.unfinished.run_left.Goals as goal

pub loop-number-init : goal.loop-number-init
loop-number-init g c = (
  refl,
  left_none (lawful g.row.P (g.L.Lawful.allows c.args.round.now.table.now.law)) (jobs_of (max_dist g.row.P) c.args.round.now.rows.now c.args.round.now.tasks.now) c.args.marks.now c.args.caller.now c.args.found.now.items,
)

pub loop-number-preserved : goal.loop-number-preserved
loop-number-preserved g c =
    let law = lawful g.row.P (g.L.Lawful.allows c.args.round.now.table.now.law) in
    let jobs = jobs_of (max_dist g.row.P) c.args.round.now.rows.now c.args.round.now.tasks.now in
    let made = task_made law (max_dist g.row.P) c.args.round.now.rows.now c.args.round.now.tasks.now c.loop-number.number _ _ _ _ _ _ _ c.loop-number-test.true c.task_arcs-arcs.ensures.row c.reserve.ensures.items c.make_offers.ensures in (
      made.2.later.table ∙ c.loop-number.invariant.0,
      left_more law jobs c.args.marks.now c.loop-number.number _ _ _ _ _ _ (sym c.is_marked.ensures ∙ c.if-is_marked.false) c.loop-number.invariant.1 made,
    )
