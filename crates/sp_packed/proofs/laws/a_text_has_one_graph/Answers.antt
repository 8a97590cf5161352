use Rattle.sp_packed.proofs.TextLaws.{one_graph}
use Rattle.sp_packed.proofs.laws.a_text_has_one_graph.Goals as goal

pub returns : goal.returns
returns c = one_graph
