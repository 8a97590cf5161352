use Rattle.sp_machine.proofs.LostExchanges.{losses_are_few}
use Rattle.sp_machine.proofs.laws.losses_are_bounded.Goals as goal

pub returns : goal.returns
returns c = losses_are_few
