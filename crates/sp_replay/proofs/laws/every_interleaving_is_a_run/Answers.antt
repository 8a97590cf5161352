use Rattle.sp_replay.proofs.CallerRuns.{interleaving_is_run}
use Rattle.sp_replay.proofs.laws.every_interleaving_is_a_run.Goals as goal

pub returns : goal.returns
returns c = interleaving_is_run
