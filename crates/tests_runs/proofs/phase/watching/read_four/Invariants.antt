use Rattle.std.proofs.Common.{◌≡◌}
use Rattle.tests_runs.proofs.phase.watching.read_four.Given as goal

abbrev pub invariant-loop-place : goal.invariant-loop-place
invariant-loop-place g l = l.watcher.table ≡ l.fn.watcher.table
