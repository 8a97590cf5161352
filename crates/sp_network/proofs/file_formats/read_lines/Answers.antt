use Rattle.sp_network.proofs.WordForm.{answered_lines}
use Rattle.sp_network.proofs.file_formats.read_lines.Goals as goal

pub returns-in-Ok : goal.returns-in-Ok
returns-in-Ok g c = rw c.of_lines.ensures (answered_lines g.row.P _ _ _ _ _ c.in-Ok.file c.in-Ok.ensures.exact c.in-Ok.ensures.found c.in-Ok.ensures.graph)
