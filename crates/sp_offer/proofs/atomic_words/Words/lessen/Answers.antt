use Rattle.std.proofs.Common.{rules}
use Rattle.sp_offer.proofs.Moves.{may_lessen}
use Rattle.sp_offer.proofs.atomic_words.Words.lessen.Goals as goal

pub fetch_min-requires : goal.fetch_min-requires
fetch_min-requires g c = (search rules, search rules, may_lessen _ _ _ _ _ c.args.self.now.layout c.requires.layout c.requires.law _ _ _ _ _ c.requires.vertex.0 c.requires.vertex.1 c.requires.by _ c.requires.word.1 _ c.requires.word.0 c.requires.seat.3)
