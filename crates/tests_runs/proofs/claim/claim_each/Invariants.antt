use Rattle.std.proofs.Common.{◌≡◌}
use Rattle.tests_runs.proofs.claim.claim_each.Given as goal

abbrev pub invariant-loop-slot : goal.invariant-loop-slot
invariant-loop-slot l = l.claimer.table ≡ l.table
