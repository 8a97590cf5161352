use Rattle.std.proofs.Common.{rules, refl}
use Rattle.sp_rounds.proofs.CallsInRow.{made_shorter, made_other}
use Rattle.sp_rounds.proofs.workers.steps.make_offer.Goals as goal

pub returns-in-SmallerPred-clause-made : goal.returns-in-SmallerPred-clause-made
returns-in-SmallerPred-clause-made g c =
    let offer = c.offer_by-offered.ensures in
    made_other _ _ _ _ _ _ _ _ _ _ _ _ c.pack-word.ensures c.in-SmallerPred.is offer.caller.0 offer.call offer.known offer.own refl

pub returns-else-is_err-clause-made : goal.returns-else-is_err-clause-made
returns-else-is_err-clause-made g c =
    let offer = c.offer_by-offered.ensures in
    made_shorter _ _ _ _ _ _ _ _ _ _ _ _ c.pack-word.ensures c.in-Shorter.is offer.reply offer.caller.0 offer.call offer.known offer.own (search rules)
