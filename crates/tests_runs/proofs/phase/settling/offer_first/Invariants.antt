use Rattle.std.proofs.Common.{◌≡◌}
use Rattle.tests_runs.proofs.phase.settling.offer_first.Given as goal

abbrev pub invariant-loop-arc : goal.invariant-loop-arc
invariant-loop-arc l = l.caller.table ≡ l.fn.caller.table
