use Rattle.std.proofs.Common.{sym, subst}
use Rattle.sp_offer.specs.Order.{lawful}
use Rattle.sp_offer.specs.Story.{Knowledge}
use Rattle.sp_team.specs.Later.{IsLater}
use Rattle.sp_team.proofs.Later.{later_along}
use Rattle.sp_team.proofs.entries.warm_vertices.Goals as goal
use Rattle.sp_team.proofs.entries.warm_vertices.Goals.{then-has_vertex, else-has_vertex}

pub loop-entry-preserved : goal.loop-entry-preserved
loop-entry-preserved g c =
    let L : Knowledge → Type 0 = λ k. IsLater (lawful g.row.P (g.L.Lawful.allows c.args.table.now.law)) c.args.caller.now k in
    elim c.if-has_vertex.branch [
      | then-has_vertex w ↦ subst L (sym w.caller-is) (later_along _ _ _ _ c.loop-entry.invariant w.read_dist.ensures.later)
      | else-has_vertex w ↦ subst L (sym w.caller-is) c.loop-entry.invariant
    ]
