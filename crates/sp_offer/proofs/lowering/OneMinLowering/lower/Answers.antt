use Rattle.sp_offer.proofs.Trails.{takes_one}
use Rattle.sp_offer.proofs.lowering.OneMinLowering.lower.Goals as goal

pub returns-clause-steps : goal.returns-clause-steps
returns-clause-steps g c = takes_one _ _ _ _ c.lessen.ensures.trail c.lessen.ensures.ends
