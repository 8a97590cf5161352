use Rattle.sp_command.proofs.Building.{then_commands}
use Rattle.sp_command.proofs.command.OneOfCommands.add_to.Goals as goal

pub returns : goal.returns
returns g c = then_commands _ _ g.A.Commands.shapes g.B.Commands.shapes c.add_to-2.result c.in_ok-add_to.ensures c.add_to-2.ensures
