use Rattle.tests_runs.proofs.ArcOffers.{told_unspent}
use Rattle.tests_runs.proofs.phase.settling.settle_next.Goals as goal

pub returns-clause-unspent : goal.returns-clause-unspent
returns-clause-unspent g c = told_unspent 28 c.in_ok-told.told c.settle.new.self c.in_ok-told.ensures.told
