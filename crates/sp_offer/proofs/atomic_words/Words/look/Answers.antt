use Rattle.std.proofs.Common.{rules}
use Rattle.sp_offer.proofs.Moves.{may_meet}
use Rattle.sp_offer.proofs.atomic_words.Words.look.Goals as goal

pub load-requires : goal.load-requires
load-requires g c = (search rules, search rules, may_meet _ _ _ _ _ c.args.self.now.layout c.requires.layout c.requires.law _ _ _ c.args.self.now.some)
