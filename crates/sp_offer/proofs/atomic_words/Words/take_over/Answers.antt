use Rattle.std.proofs.Common.{subst}
use Rattle.sp_offer.specs.Order.{lawful}
use Rattle.sp_offer.specs.Story.{Looks}
use Rattle.sp_offer.specs.Sight.{Sight, story}
use Rattle.sp_offer.specs.Rule.{Hears}
use Rattle.sp_offer.proofs.CallKnowledge.{follows}
use Rattle.sp_offer.proofs.atomic_words.Words.take_over.Goals as goal

pub returns-clause-story : goal.returns-clause-story
returns-clause-story g c = let look = c.look.ensures.looks in let view = c.merge.ensures.view in let key = c.args.self.now.table.shared.key in
    follows (lawful key.layout (g.L.Lawful.allows key.law)) 1 look.0 c.args.seat.now.me.0 c.args.other.me.0 c.look.new.seat.me.0 (subst (λ (v : Sight). Hears v c.look.new.seat.me.0) view c.look.ensures.hears)
    (subst (λ (v : Sight). Looks (lawful key.layout (g.L.Lawful.allows key.law)) 1 look.0 (story v) (story c.look.new.seat.me.0)) view look.1)
