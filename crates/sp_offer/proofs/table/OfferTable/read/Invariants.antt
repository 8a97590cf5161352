use Rattle.sp_word.specs.Word.{Unreached}
use Rattle.sp_offer.specs.Order.{lawful}
use Rattle.sp_offer.proofs.table.OfferTable.read.Given as goal

-- the call picks the caller's number, and the table's layout and law
abbrev pub ghosts-read : goal.ghosts-read
ghosts-read g a = let key = a.self.now.table.shared.key in record { by = a.seat.now.id; layout = key.layout; law = lawful key.layout (g.L.Lawful.allows key.law); word = Unreached }
