use Rattle.sp_rounds.proofs.WorkerSteps.{goes_none}
use Rattle.sp_rounds.proofs.workers.stealing.try_number.Goals as goal

pub returns-then-number-round-clause-goes : goal.returns-then-number-round-clause-goes
returns-then-number-round-clause-goes g c = goes_none _ _ _ _
