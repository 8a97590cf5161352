use Rattle.std.proofs.Common.{refl}
use Rattle.sp_command.proofs.Building.{arg_adds, adds_arg, then_rules}
use Rattle.sp_options.proofs.sources.Sources.add_with_part.Goals as goal

pub returns : goal.returns
returns c =
    let first = arg_adds _ _ _ _ c.in_ok-file.ensures refl c.in_ok-arg.ensures in
    let second = arg_adds _ _ _ _ c.option.ensures refl c.in_ok-arg-2.ensures in
    let third = adds_arg _ _ _ c.arg-3.result c.in_ok-places_option.ensures refl c.arg-3.ensures in
    then_rules _ _ _ _ c.arg-3.result first (then_rules _ _ _ _ c.arg-3.result second third)
