use Rattle.std.proofs.Common.{rules, subst, ◌≡◌, [], ◌∷◌}
use Rattle.sp_word.specs.Word.{Word, word_of}
use Rattle.sp_offer.specs.Order.{lawful}
use Rattle.sp_offer.specs.Story.{Knowledge, IsStory, Calls}
use Rattle.sp_offer.specs.Rule.{knowledge, seat_story}
use Rattle.sp_offer.specs.Calling.{read_of, TakesSteps}
use Rattle.sp_offer.proofs.Trails.{takes_one}
use Rattle.sp_offer.proofs.CallKnowledge.{knows}
use Rattle.sp_offer.proofs.Own.{own_more}
use Rattle.sp_offer.proofs.table.OfferTable.read.Goals as goal

pub returns-clause-known : goal.returns-clause-known
returns-clause-known g c =
    let call : Calls (lawful g.row.P (g.L.Lawful.allows c.args.self.now.law)) (read_of c.args.caller.now c.args.vertex c.from_bits.result) c.args.caller.now.story (seat_story c.read.new.seat) = search rules in
    knows _ _ _ _ call

pub returns-clause-own : goal.returns-clause-own
returns-clause-own g c =
    let call : Calls (lawful g.row.P (g.L.Lawful.allows c.args.self.now.law)) (read_of c.args.caller.now c.args.vertex c.from_bits.result) c.args.caller.now.story (seat_story c.read.new.seat) = search rules in
    own_more _ _ _ _ (subst (λ (k : Knowledge). IsStory k.story) c.caller.view_is c.caller.invariant.2) call

pub returns-clause-steps : goal.returns-clause-steps
returns-clause-steps g c =
    let same : word_of c.self.inside.words.table.shared.key.layout c.read.result ≡ c.from_bits.result = search rules in
    subst (λ (z : Knowledge × Word). TakesSteps (read_of z.0 c.args.vertex z.1) (λ ws. ws ≡ z.1 ∷ []) z.0 (knowledge c.read.new.seat)) (λ i. (c.caller.view_is i, same i))
    (takes_one _ _ _ _ c.read.ensures.trail c.read.ensures.ends)
