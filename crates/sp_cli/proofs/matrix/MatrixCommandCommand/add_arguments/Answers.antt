use Rattle.std.proofs.Common.{refl}
use Rattle.sp_command.proofs.Building.{arg_adds, then_rules}
use Rattle.sp_cli.proofs.matrix.MatrixCommandCommand.add_arguments.Goals as goal

pub returns : goal.returns
returns c =
    let graph = arg_adds _ _ _ _ c.graph_file.ensures refl c.in_ok-command.ensures in
    let last = c.add_with_mean.result in
    then_rules _ _ _ _ last graph (then_rules _ _ _ _ last c.in_ok-add_to.ensures c.add_with_mean.ensures)
