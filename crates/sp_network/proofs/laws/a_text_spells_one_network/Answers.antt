use Rattle.sp_network.proofs.WordForm.{one_network}
use Rattle.sp_network.proofs.laws.a_text_spells_one_network.Goals as goal

pub returns : goal.returns
returns c = one_network
