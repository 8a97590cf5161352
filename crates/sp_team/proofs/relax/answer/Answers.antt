use Rattle.std.proofs.Common.{List, subst}
use Rattle.std.specs.Prelude.{All}
use Rattle.sp_offer.specs.Story.{known_table}
use Rattle.sp_team.specs.declared.relax.Request.{Request}
use Rattle.sp_team.specs.Marked.{IsMet}
use Rattle.sp_team.proofs.Later.{later_along}
use Rattle.sp_team.proofs.Marks.{dropped_met}
use Rattle.sp_team.proofs.relax.answer.Goals as goal

pub returns-in_err-offer_all-clause-later : goal.returns-in_err-offer_all-clause-later
returns-in_err-offer_all-clause-later g c = later_along _ _ _ _ c.warm_heads.ensures (later_along _ _ _ _ c.drop_met.ensures.later c.offer_all.ensures.later)

pub returns-clause-later : goal.returns-clause-later
returns-clause-later g c = later_along _ _ _ _ c.warm_heads.ensures (later_along _ _ _ _ c.drop_met.ensures.later c.offer_all.ensures.later)

pub returns-clause-met : goal.returns-clause-met
returns-clause-met g c =
    let after = known_table c.offer_all.new.caller.story in
    let met = subst (λ (rs : List (Request g.row.P)). All (IsMet after) rs) c.as_slice-2.ensures.value c.in_ok-offer_all.ensures.met in
    dropped_met (known_table c.drop_met.new.caller.story) after c.drop_met.new.requests.items c.args.requests.now.items c.offer_all.ensures.later.falls met c.drop_met.ensures.met
