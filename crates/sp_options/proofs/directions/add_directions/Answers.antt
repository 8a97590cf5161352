use Rattle.std.proofs.Common.{refl}
use Rattle.sp_command.proofs.Building.{arg_adds, adds_arg, then_rules}
use Rattle.sp_options.proofs.directions.add_directions.Goals as goal

pub returns : goal.returns
returns c =
    let first = arg_adds _ _ _ _ c.in_ok-towards.ensures refl c.in_ok-arg.ensures in
    let second = adds_arg _ _ _ c.arg-2.result c.both_ways.ensures refl c.arg-2.ensures in
    then_rules _ _ _ _ c.arg-2.result first second
