use Rattle.sp_offer.specs.Order.{lawful}
use Rattle.sp_team.specs.Later.{IsLater}
use Rattle.sp_team.proofs.team.put_queue.Given as goal

abbrev pub invariant-loop-vertex : goal.invariant-loop-vertex
invariant-loop-vertex g l = IsLater (lawful g.row.P (g.L.Lawful.allows l.table.law)) l.initial.caller l.caller
