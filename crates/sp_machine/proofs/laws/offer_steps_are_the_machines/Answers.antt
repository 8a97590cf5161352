use Rattle.sp_machine.proofs.OfferSteps.{steps_are}
use Rattle.sp_machine.proofs.laws.offer_steps_are_the_machines.Goals as goal

pub returns : goal.returns
returns c = steps_are
