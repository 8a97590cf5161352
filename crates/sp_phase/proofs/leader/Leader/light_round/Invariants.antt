use Rattle.sp_phase.specs.Lead.{MakesDue}
use Rattle.sp_phase.proofs.leader.Leader.light_round.Given as goal

abbrev pub invariant-loop-entry : goal.invariant-loop-entry
invariant-loop-entry g l = MakesDue g.row.P l.tasks.items l.fn.self l.self
