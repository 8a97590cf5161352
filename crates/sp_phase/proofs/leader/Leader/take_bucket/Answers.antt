use Rattle.std.proofs.Common.{ap, subst}
use Rattle.std.specs.Prelude.{All}
use Rattle.sp_phase.specs.Lead.{Lead}
use Rattle.sp_phase.specs.Running.{IsQueued}
use Rattle.sp_phase.proofs.LeaderHolds.{takes_queued}
use Rattle.sp_phase.proofs.leader.Leader.take_bucket.Goals as goal

pub invariant_of-self : goal.invariant_of-self
invariant_of-self g c = (c.self.invariant.0, (takes_queued g.row.P c.self.inside.store.now _ c.take.new.self c.args.bucket _ c.take.ensures c.self.invariant.1).0)

pub returns-clause-rest : goal.returns-clause-rest
returns-clause-rest g c = ap (λ (l : Lead). record l { buckets = c.take.new.self }) c.self.view_is

pub returns-clause-queued : goal.returns-clause-queued
returns-clause-queued g c =
    subst (λ (l : Lead). All (IsQueued g.row.P l.stage) c.take.result.items) c.self.view_is
    (takes_queued g.row.P c.self.inside.store.now _ c.take.new.self c.args.bucket _ c.take.ensures c.self.invariant.1).1
