use Rattle.sp_network.proofs.TurnedWalks.{turned_walk, turned_least}
use Rattle.sp_network.proofs.turned_laws.turned_walks.Goals as goal

pub returns-clause-walks : goal.returns-clause-walks
returns-clause-walks c = turned_walk

pub returns-clause-least : goal.returns-clause-least
returns-clause-least c = turned_least
