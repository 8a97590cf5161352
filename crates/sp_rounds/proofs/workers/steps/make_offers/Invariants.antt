use Rattle.std.proofs.Common.{◌≡◌, ◌+◌, ◌≤◌, length, take, vec_len, vec_capacity, ◌-◌}
use Rattle.sp_word.specs.Word.{max_dist}
use Rattle.sp_offer.specs.Order.{lawful}
use Rattle.sp_rounds.specs.Offers.{offers_along}
use Rattle.sp_rounds.specs.Work.{MadeOffers}
use Rattle.sp_rounds.proofs.workers.steps.make_offers.Given as goal

abbrev pub invariant-loop-arc : goal.invariant-loop-arc
invariant-loop-arc g l =
    (l.caller.table ≡ l.table.id)
    × (vec_len l.found + (length l.arcs - l.arc-index) ≤ vec_capacity l.found)
    × MadeOffers (lawful g.row.P (g.L.Lawful.allows l.table.law)) (offers_along (max_dist g.row.P) l.dist (take l.arc-index l.arcs)) l.initial.caller l.caller l.initial.found.items l.found.items
