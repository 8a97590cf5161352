use Rattle.std.proofs.Common.{◌≡◌, ◌≤◌, ◌++◌}
use Rattle.std.specs.Prelude.{vec_len, vec_capacity}
use Rattle.sp_offer.specs.Order.{lawful}
use Rattle.sp_offer.specs.Story.{Reads, reads_of, own_calls}
use Rattle.sp_offer.specs.Calling.{Copies}
use Rattle.sp_offer.proofs.table.OfferTable.list_words.Given as goal

-- the words so far were read, each once, and the list has room for all
abbrev pub invariant-loop-place : goal.invariant-loop-place
invariant-loop-place g l = record {
  same : (l.caller.table ≡ l.fn.caller.table) × (l.caller.number ≡ l.fn.caller.number);
  size : vec_len l.words ≡ l.place;
  room : l.count ≤ vec_capacity l.words;
  reads : Reads (lawful g.row.P (g.L.Lawful.allows l.self.law)) l.fn.caller.number 1 l.words.items l.fn.caller.story l.caller.story;
  own : own_calls l.caller.story ≡ own_calls l.fn.caller.story ++ reads_of l.fn.caller.number 1 l.words.items;
  steps : Copies l.words.items l.fn.caller l.caller;
}
