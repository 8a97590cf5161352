use Rattle.std.proofs.Common.{rules, subst}
use Rattle.sp_offer.specs.Story.{Knowledge, IsStory}
use Rattle.sp_offer.proofs.CallKnowledge.{knows}
use Rattle.sp_offer.proofs.Own.{own_more}
use Rattle.sp_offer.proofs.table.OfferTable.offer_by.Goals as goal

pub returns-clause-call : goal.returns-clause-call
returns-clause-call g c = search rules

pub returns-clause-known : goal.returns-clause-known
returns-clause-known g c = knows _ _ _ _ (returns-clause-call g c)

pub returns-clause-own : goal.returns-clause-own
returns-clause-own g c = own_more _ _ _ _ (subst (λ (k : Knowledge). IsStory k.story) c.caller.view_is c.caller.invariant.2) (returns-clause-call g c)
