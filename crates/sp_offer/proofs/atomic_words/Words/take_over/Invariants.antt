use Rattle.sp_word.specs.Word.{Unreached}
use Rattle.sp_offer.specs.Order.{lawful}
use Rattle.sp_offer.proofs.atomic_words.Words.take_over.Given as goal

-- the look picks the table's layout and law
abbrev pub ghosts-look : goal.ghosts-look
ghosts-look g a = let key = a.self.now.table.shared.key in record { by = 0; layout = key.layout; law = lawful key.layout (g.L.Lawful.allows key.law); word = Unreached }
