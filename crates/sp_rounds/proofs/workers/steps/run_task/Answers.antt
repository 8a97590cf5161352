use Rattle.std.proofs.Common.{List, ◌∙◌, sym, ap, subst}
use Rattle.sp_word.specs.Word.{max_dist}
use Rattle.sp_offer.specs.Order.{lawful}
use Rattle.sp_rounds.specs.Offers.{AskedOffer, offers_along}
use Rattle.sp_rounds.specs.Work.{MadeOffers}
use Rattle.sp_rounds.proofs.WorkerSteps.{offers_at-is}
use Rattle.sp_rounds.proofs.workers.steps.run_task.Goals as goal

pub returns-clause-made : goal.returns-clause-made
returns-clause-made g c =
    let law = lawful g.row.P (g.L.Lawful.allows c.args.round.now.table.now.law) in
    let same = ap (offers_along (max_dist g.row.P) _) (c.requires.row _) ∙ sym (offers_at-is (max_dist g.row.P) c.args.round.now.rows.now c.args.round.now.tasks.now c.args.number _ c.requires.number) in
    subst (λ (xs : List AskedOffer). MadeOffers law xs c.args.done.now.caller c.make_offers.new.caller c.args.done.now.found.items c.make_offers.new.found.items) same c.make_offers.ensures
