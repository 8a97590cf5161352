use Rattle.std.proofs.Common.{◌≡◌}
use Rattle.sp_phase.proofs.leader.Leader.advance.Given as goal

abbrev pub invariant-loop : goal.invariant-loop
invariant-loop g l = l.self.stage ≡ l.fn.self.stage
