use Rattle.std.proofs.Common.{◌≡◌, ◌++◌, take}
use Rattle.sp_offer.specs.Order.{lawful}
use Rattle.sp_offer.specs.Story.{Reads, reads_of, own_calls}
use Rattle.sp_offer.specs.Calling.{Copies}
use Rattle.sp_offer.proofs.table.OfferTable.copy_words.Given as goal

-- the words so far were read, each once
abbrev pub invariant-loop-i : goal.invariant-loop-i
invariant-loop-i g l = record {
  same : (l.caller.table ≡ l.fn.caller.table) × (l.caller.number ≡ l.fn.caller.number);
  reads : Reads (lawful g.row.P (g.L.Lawful.allows l.self.law)) l.fn.caller.number 1 (take l.i l.words) l.fn.caller.story l.caller.story;
  own : own_calls l.caller.story ≡ own_calls l.fn.caller.story ++ reads_of l.fn.caller.number 1 (take l.i l.words);
  steps : Copies (take l.i l.words) l.fn.caller l.caller;
}
