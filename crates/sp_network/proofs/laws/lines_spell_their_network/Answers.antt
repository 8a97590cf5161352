use Rattle.sp_network.proofs.LineForm.{lines_unpacked}
use Rattle.sp_network.proofs.WordForm.{lines_spelled}
use Rattle.sp_network.proofs.laws.lines_spell_their_network.Goals as goal

pub returns-clause-unpacked : goal.returns-clause-unpacked
returns-clause-unpacked c = lines_unpacked

pub returns-clause-spelled : goal.returns-clause-spelled
returns-clause-spelled c = lines_spelled
