use Rattle.std.proofs.Common.{◌≤◌}
use Rattle.sp_graph.proofs.nearness.lead_far.Given as goal

abbrev pub invariant-loop-look : goal.invariant-loop-look
invariant-loop-look l = l.far ≤ l.look
