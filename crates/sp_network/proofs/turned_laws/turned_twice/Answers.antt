use Rattle.sp_network.proofs.TurnedArcs.{turned_twice}
use Rattle.sp_network.proofs.turned_laws.turned_twice.Goals as goal

pub returns : goal.returns
returns c = turned_twice
