use Rattle.std.proofs.Common.{refl}
use Rattle.sp_command.proofs.Building.{arg_adds, then_rules}
use Rattle.sp_options.proofs.running.RunOptions.add_to.Goals as goal

pub returns : goal.returns
returns c = then_rules _ _ _ _ c.add_rest.result (arg_adds _ _ _ _ c.option.ensures refl c.in_ok-arg.ensures) c.add_rest.ensures
