use Rattle.sp_machine.proofs.RunSteps.{run_is_linear}
use Rattle.sp_machine.proofs.laws.every_run_is_linear.Goals as goal

pub returns : goal.returns
returns c = run_is_linear
