use Rattle.sp_machine.proofs.ClosedRuns.{closed_run_ends_in_tree}
use Rattle.sp_machine.proofs.laws.closed_run_ends_in_tree.Goals as goal

pub returns : goal.returns
returns c = closed_run_ends_in_tree
