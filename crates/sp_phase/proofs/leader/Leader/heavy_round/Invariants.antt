use Rattle.sp_phase.specs.Lead.{MakesDue}
use Rattle.sp_phase.proofs.leader.Leader.heavy_round.Given as goal

abbrev pub invariant-loop-vertex : goal.invariant-loop-vertex
invariant-loop-vertex g l = MakesDue g.row.P l.tasks.items l.fn.self l.self
