use Rattle.sp_replay.proofs.CallerRuns.{end_is_run}
use Rattle.sp_replay.proofs.laws.every_end_is_a_run.Goals as goal

pub returns : goal.returns
returns g c = end_is_run g.L.Lawful.allows
