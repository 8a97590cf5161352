use Rattle.sp_packed.proofs.TextLaws.{one_text}
use Rattle.sp_packed.proofs.laws.a_graph_has_one_text.Goals as goal

pub returns : goal.returns
returns c = one_text
