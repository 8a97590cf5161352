use Rattle.std.proofs.Common.{refl}
use Rattle.sp_command.proofs.Building.{arg_adds, adds_arg, then_rules}
use Rattle.sp_options.proofs.lists.Lists.add_to.Goals as goal

pub returns : goal.returns
returns c =
    let zeroth = arg_adds _ _ _ _ c.in_ok-sources.ensures refl c.in_ok-arg.ensures in
    let first = arg_adds _ _ _ _ c.in_ok-targets.ensures refl c.in_ok-arg-2.ensures in
    let second = arg_adds _ _ _ _ c.option.ensures refl c.in_ok-arg-3.ensures in
    let third = arg_adds _ _ _ _ c.option-2.ensures refl c.in_ok-arg-4.ensures in
    let fourth = adds_arg _ _ _ c.arg-5.result c.in_ok-places_option.ensures refl c.arg-5.ensures in
    let last = c.arg-5.result in
    then_rules _ _ _ _ last zeroth (then_rules _ _ _ _ last first (then_rules _ _ _ _ last second (then_rules _ _ _ _ last third fourth)))
