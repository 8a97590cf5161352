use Rattle.std.proofs.Common.{◌≤◌}
use Rattle.spt_example.proofs.while_running.watch.Given as goal

abbrev pub invariant-loop : goal.invariant-loop
invariant-loop g l = 4 ≤ l.run.stage.graph.n
