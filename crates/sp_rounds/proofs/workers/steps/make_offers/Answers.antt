use Rattle.std.proofs.Common.{List, arith, subst, ◌∙◌, sym, ◌+◌, Vec, Global}
use Rattle.std.proofs.lemmas.List.{take_more}
use Rattle.sp_word.specs.Word.{max_dist}
use Rattle.sp_paths.specs.declared.arc.Arc.{Arc}
use Rattle.sp_offer.specs.Order.{lawful}
use Rattle.sp_offer.specs.Story.{Knowledge}
use Rattle.sp_bins.specs.declared.entry.Entry.{Entry}
use Rattle.sp_rounds.specs.Offers.{offers_along}
use Rattle.sp_rounds.specs.Work.{MadeOffers}
use Rattle.sp_rounds.proofs.Arcs.{Along, along_more, along_same}
use Rattle.sp_rounds.proofs.CallsInRow.{offers_none}
use Rattle.sp_rounds.proofs.workers.steps.make_offers.Goals as goal
use Rattle.sp_rounds.proofs.workers.steps.make_offers.Goals.{then-arc-rest, else-arc-rest}

pub loop-arc-init : goal.loop-arc-init
loop-arc-init g c = (c.requires.table, omega (arith, c.requires.room), offers_none _ _ _)

pub loop-arc-preserved : goal.loop-arc-preserved
loop-arc-preserved g c =
    let law = lawful g.row.P (g.L.Lawful.allows c.args.table.now.law) in
    let so : Knowledge → Vec Entry Global → Type 0 =
    λ caller found. Along law (max_dist g.row.P) c.args.dist c.args.table.now.id c.args.arcs.now (c.loop-arc.arc-index + 1) c.args.caller.now c.args.found.now.items caller found in
    let all = take_more c.args.arcs.now c.loop-arc.arc-index (record { tail = 0; head = 0; len = 0 }) c.loop-arc-test.true in
    let done = λ (xs : List Arc) (caller : Knowledge) (bag : List Entry). MadeOffers law (offers_along (max_dist g.row.P) c.args.dist xs) c.args.caller.now caller c.args.found.now.items bag in
    elim c.if-arc-rest.branch [
      | then-arc-rest w ↦ subst (λ (x : Knowledge). so x c.if-arc-rest.found) (sym w.caller-is) (subst (λ (y : Vec Entry Global). so w.make_offer.new.caller y) (sym w.found-is) (
        w.make_offer.ensures.made.2.later.table ∙ c.loop-arc.invariant.0,
        omega arith,
        subst (λ (xs : List Arc). done xs w.make_offer.new.caller w.make_offer.new.found.items) (sym all)
            (along_more law (max_dist g.row.P) c.args.dist _ _ _ _ _ _ _ _ (let w' = w.if-arc-rest in omega arith) c.loop-arc.invariant.2 w.make_offer.ensures.made),
      ))
      | else-arc-rest w ↦ subst (λ (x : Knowledge). so x c.if-arc-rest.found) (sym w.caller-is) (subst (λ (y : Vec Entry Global). so c.loop-arc.caller y) (sym w.found-is) (
        c.loop-arc.invariant.0,
        omega arith,
        subst (λ (xs : List Arc). done xs c.loop-arc.caller c.loop-arc.found.items) (sym all)
            (along_same law (max_dist g.row.P) c.args.dist _ _ _ _ _ _ (let w' = w.if-arc-rest in omega arith) c.loop-arc.invariant.2),
      ))
    ]
