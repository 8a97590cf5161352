use Rattle.std.proofs.Common.{refl}
use Rattle.sp_command.proofs.Building.{arg_adds, then_rules}
use Rattle.sp_cli.proofs.nearest.NearestCommandCommand.add_arguments.Goals as goal

pub returns : goal.returns
returns c =
    let graph = arg_adds _ _ _ _ c.graph_file.ensures refl c.in_ok-command.ensures in
    let within = arg_adds _ _ _ _ c.option.ensures refl c.in_ok-command-2.ensures in
    let last = c.add_with_mean.result in
    then_rules _ _ _ _ last graph (then_rules _ _ _ _ last c.in_ok-add_all_to.ensures (then_rules _ _ _ _ last within c.add_with_mean.ensures))
