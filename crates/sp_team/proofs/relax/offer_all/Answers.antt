use Rattle.std.proofs.Common.{subst}
use Rattle.sp_offer.specs.Story.{known_table}
use Rattle.sp_team.specs.Marked.{IsMet}
use Rattle.sp_team.proofs.Later.{later_along}
use Rattle.sp_team.proofs.Marks.{one_met_more, all_reached}
use Rattle.sp_team.proofs.relax.offer_all.Goals as goal

pub returns-in_err-offer_head-clause-later : goal.returns-in_err-offer_head-clause-later
returns-in_err-offer_head-clause-later g c = later_along _ _ _ _ c.loop-request.invariant.later c.offer_head.ensures.later

pub loop-request-preserved : goal.loop-request-preserved
loop-request-preserved g c =
    let so_far = c.loop-request.invariant in record {
      later = later_along _ _ _ _ so_far.later c.offer_head.ensures.later;
      met = one_met_more (known_table c.loop-request.caller.story) (known_table c.offer_head.new.caller.story) c.args.requests.now c.loop-request.request-index _ c.loop-request-test.true c.offer_head.ensures.later.falls so_far.met
          (subst (IsMet (known_table c.offer_head.new.caller.story)) c.request-item.is c.offer_head.ensures.met);
    }

pub returns-clause-met : goal.returns-clause-met
returns-clause-met g c = all_reached (IsMet (known_table c.loop-request.caller.story)) c.args.requests.now c.loop-request.request-index c.loop-request-test.false c.loop-request.invariant.met
