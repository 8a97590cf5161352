use Rattle.std.proofs.Common.{refl}
use Rattle.sp_command.proofs.Building.{arg_adds, adds_arg, then_rules}
use Rattle.sp_options.proofs.running.RunOptions.add_rest.Goals as goal

pub returns : goal.returns
returns c =
    let first = arg_adds _ _ _ _ c.workers_option.ensures refl c.in_ok-arg.ensures in
    let second = arg_adds _ _ _ _ c.far_ok.ensures refl c.in_ok-arg-2.ensures in
    let third = adds_arg _ _ _ c.arg-3.result c.progress.ensures refl c.arg-3.ensures in
    let last = c.arg-3.result in
    then_rules _ _ _ _ last c.in_ok-add_directions.ensures (then_rules _ _ _ _ last first (then_rules _ _ _ _ last second third))
