use Rattle.sp_word.specs.Word.{word_of}
use Rattle.sp_offer.specs.Order.{lawful}
use Rattle.sp_offer.proofs.lowering.LoopLowering.lower.Given as goal

-- the call picks the caller's number, the table's layout and law, and the word that it offers
abbrev pub ghosts-lower : goal.ghosts-lower
ghosts-lower g a = let key = a.self.now.table.shared.key in record { by = a.seat.now.id; layout = key.layout; law = lawful key.layout (g.L.Lawful.allows key.law); word = word_of key.layout a.word }
