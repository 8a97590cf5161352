use Rattle.sp_offer.specs.Order.{lawful}
use Rattle.sp_team.specs.Later.{IsLater}
use Rattle.sp_team.proofs.entries.warm_vertices.Given as goal

abbrev pub invariant-loop-entry : goal.invariant-loop-entry
invariant-loop-entry g l = IsLater (lawful g.row.P (g.L.Lawful.allows l.table.law)) l.initial.caller l.caller
