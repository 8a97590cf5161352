use Rattle.std.specs.Prelude.{All, take}
use Rattle.sp_offer.specs.Order.{lawful}
use Rattle.sp_offer.specs.Story.{known_table}
use Rattle.sp_team.specs.Later.{IsLater}
use Rattle.sp_team.specs.Marked.{IsMet}
use Rattle.sp_team.proofs.relax.offer_all.Given as goal

abbrev pub invariant-loop-request : goal.invariant-loop-request
invariant-loop-request g l = record {
  later : IsLater (lawful g.row.P (g.L.Lawful.allows l.table.law)) l.initial.caller l.caller;
  met : All (IsMet (known_table l.caller.story)) (take l.request-index l.requests);
}
