use Rattle.std.proofs.Common.{◌≡◌}
use Rattle.tests_runs.proofs.phase.watching.watch.Given as goal

abbrev pub invariant-loop : goal.invariant-loop
invariant-loop g l = l.watcher.table ≡ l.fn.watcher.table
