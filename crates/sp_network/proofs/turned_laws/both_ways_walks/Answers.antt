use Rattle.sp_network.proofs.TurnedWalks.{both_ways_walk, both_ways_least}
use Rattle.sp_network.proofs.turned_laws.both_ways_walks.Goals as goal

pub returns-clause-walks : goal.returns-clause-walks
returns-clause-walks c = both_ways_walk

pub returns-clause-least : goal.returns-clause-least
returns-clause-least c = both_ways_least
