use Rattle.std.proofs.Common.{rules}
use Rattle.sp_offer.proofs.Moves.{may_read}
use Rattle.sp_offer.proofs.atomic_words.Words.read.Goals as goal

pub load-requires : goal.load-requires
load-requires g c = (search rules, search rules, may_read _ _ _ _ _ c.args.self.now.layout c.requires.layout c.requires.law _ _ _ _ _ c.requires.vertex.0 c.requires.vertex.1 c.requires.by c.requires.seat.3)
