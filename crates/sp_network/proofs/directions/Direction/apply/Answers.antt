use Rattle.sp_network.proofs.DirectedArcs.{led}
use Rattle.sp_network.proofs.directions.Direction.apply.Goals as goal

pub returns-in-Towards : goal.returns-in-Towards
returns-in-Towards g c = record {
  directed = c.lead.ensures;
  network = λ P. led c.args.self P c.args.network c.lead.result c.lead.ensures;
}
