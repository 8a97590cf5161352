use Rattle.std.proofs.Common.{◌≡◌, ◌<◌, ◌&&◌, true, sym, subst, arith, length}
use Rattle.std.specs.Prelude.{All}
use Rattle.std.proofs.lemmas.Bool.{and_parts}
use Rattle.sp_offer.specs.Order.{lawful}
use Rattle.sp_team.specs.Live.{IsLive}
use Rattle.sp_team.proofs.Later.{later_along}
use Rattle.sp_team.proofs.Rows.{kept_within, one_kept_more}
use Rattle.sp_team.proofs.team.take_live.Goals as goal

pub loop-place-preserved : goal.loop-place-preserved
loop-place-preserved g c =
    let law = lawful g.row.P (g.L.Lawful.allows c.args.table.now.law) in
    let so_far = c.loop-place.invariant in
    let kept = c.loop-place.kept in
    let entry = c.index-entry.result.now in
    let is_relaxed = c.is_live.result && c.reaches.result in
    let is_kept = is_relaxed && c.leads_on.result in
    let low : kept < length c.loop-place.live.items = omega (arith, so_far.kept, c.loop-place-test.true, c.len-place-end.ensures, so_far.size, c.loop-place.live.ok.0) in
    let here : is_kept ≡ true → IsLive law c.args.graph.now entry = λ held.
    let parts = and_parts is_relaxed c.leads_on.result held in
    (c.leads_on.ensures parts.1, c.is_live.ensures.dist (and_parts c.is_live.result c.reaches.result parts.0).0) in record {
      later = later_along _ _ _ _ so_far.later c.is_live.ensures.later;
      size = so_far.size;
      kept = kept_within kept c.loop-place.place c.from-kept.result is_kept so_far.kept c.from-kept.ensures;
      live = one_kept_more (IsLive law c.args.graph.now) c.loop-place.live.items kept c.from-kept.result entry is_kept low c.from-kept.ensures here so_far.live;
    }

pub returns-clause-live : goal.returns-clause-live
returns-clause-live g c =
    subst (All (IsLive (lawful g.row.P (g.L.Lawful.allows c.args.table.now.law)) c.args.graph.now)) (sym c.truncate.ensures.items) c.loop-place.invariant.live
