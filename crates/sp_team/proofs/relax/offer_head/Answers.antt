use Rattle.sp_offer.specs.Story.{known_table}
use Rattle.sp_team.proofs.Later.{later_call}
use Rattle.sp_team.proofs.Marks.{offer_meets}
use Rattle.sp_team.proofs.relax.offer_head.Goals as goal

pub returns-in-Shorter-Some-clause-later : goal.returns-in-Shorter-Some-clause-later
returns-in-Shorter-Some-clause-later g c = later_call _ _ _ _ c.offer.ensures.caller.0 c.offer.ensures.call c.offer.ensures.known

pub returns-in-Shorter-Some-clause-met : goal.returns-in-Shorter-Some-clause-met
returns-in-Shorter-Some-clause-met g c = offer_meets (known_table c.offer.new.caller.story) c.args.request _ c.offer.ensures.known.here

pub returns-in_default-clause-later : goal.returns-in_default-clause-later
returns-in_default-clause-later g c = later_call _ _ _ _ c.offer.ensures.caller.0 c.offer.ensures.call c.offer.ensures.known

pub returns-in_default-clause-met : goal.returns-in_default-clause-met
returns-in_default-clause-met g c = offer_meets (known_table c.offer.new.caller.story) c.args.request _ c.offer.ensures.known.here

pub returns-in_default-2-clause-later : goal.returns-in_default-2-clause-later
returns-in_default-2-clause-later g c = later_call _ _ _ _ c.offer.ensures.caller.0 c.offer.ensures.call c.offer.ensures.known

pub returns-in_default-2-clause-met : goal.returns-in_default-2-clause-met
returns-in_default-2-clause-met g c = offer_meets (known_table c.offer.new.caller.story) c.args.request _ c.offer.ensures.known.here
