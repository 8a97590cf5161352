use Rattle.sp_network.proofs.TurnedArcs.{both_ways_turned}
use Rattle.sp_network.proofs.turned_laws.both_ways_turned.Goals as goal

pub returns : goal.returns
returns c = both_ways_turned
