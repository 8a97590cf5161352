use Rattle.std.proofs.Common.{◌≡◌, ◌<◌, ◌≤◌, false, ◌∙◌, sym, subst, arith, length}
use Rattle.std.specs.Prelude.{All, take}
use Rattle.std.proofs.lemmas.List.{length-set, get_or_default}
use Rattle.std.proofs.lemmas.List.Elements.{All-set}
use Rattle.sp_offer.specs.Order.{lawful}
use Rattle.sp_offer.specs.Story.{known_table}
use Rattle.sp_team.specs.Requests.{IsRequest}
use Rattle.sp_team.specs.Marked.{IsMet, WillBeMet}
use Rattle.sp_team.proofs.Later.{later_along}
use Rattle.sp_team.proofs.Marks.{rest_still, one_place_more, all_reached}
use Rattle.sp_team.proofs.Rows.{request_at, kept_within}
use Rattle.sp_team.proofs.relax.drop_met.Goals as goal

pub loop-place-preserved : goal.loop-place-preserved
loop-place-preserved g c =
    let law = lawful g.row.P (g.L.Lawful.allows c.args.table.now.law) in
    let vertices = c.args.table.now.vertices in
    let so_far = c.loop-place.invariant in
    let rs = c.loop-place.requests.items in
    let qs = c.args.requests.now.items in
    let kept = c.loop-place.kept in
    let i = c.loop-place.place in
    let r = c.index.result.now in
    let told = c.is_lower-is_kept.ensures in
    let known = known_table c.is_lower-is_kept.new.caller.story in
    let first : i < length qs = omega (arith, c.loop-place-test.true, c.len-place-end.ensures, c.args.requests.now.ok.0) in
    let second : i < length rs = omega (arith, first, so_far.length) in
    let same : c.index-request.result.now ≡ r = c.index-request.ensures ∙ (get_or_default rs i c.index-request.result.now r second ∙ sym c.index.ensures) in
    let met : c.is_lower-is_kept.result ≡ false → IsMet known r = λ above. subst (IsMet known) same (told.met above) in record {
      later = later_along law _ _ _ so_far.later told.later;
      requests = All-set (IsRequest law vertices) rs kept r (request_at g.row.P law vertices rs i r second c.index.ensures so_far.requests) so_far.requests;
      length = length-set rs kept r ∙ so_far.length;
      kept = kept_within kept i c.from-kept.result c.is_lower-is_kept.result so_far.kept c.from-kept.ensures;
      rest = rest_still qs rs kept i r so_far.kept so_far.rest;
      met = one_place_more (known_table c.loop-place.caller.story) (known_table c.is_lower-is_kept.new.caller.story) qs rs kept i c.from-kept.result r c.is_lower-is_kept.result first second so_far.kept
          c.index.ensures c.from-kept.ensures so_far.rest told.later.falls met so_far.met;
    }

pub returns-clause-met : goal.returns-clause-met
returns-clause-met g c =
    let known = known_table c.loop-place.caller.story in
    let qs = c.args.requests.now.items in
    let kept = take c.loop-place.kept c.loop-place.requests.items in
    let end : length qs ≤ c.loop-place.place = omega (arith, c.loop-place-test.false, c.len-place-end.ensures, c.args.requests.now.ok.0) in
    subst (λ xs. All (WillBeMet known xs) qs) (sym c.truncate.ensures.items) (all_reached (WillBeMet known kept) qs c.loop-place.place end c.loop-place.invariant.met)
