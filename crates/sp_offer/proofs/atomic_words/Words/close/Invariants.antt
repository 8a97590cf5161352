use Rattle.std.proofs.Common.{◌≡◌, ◌≤◌, map, take}
use Rattle.std.specs.Prelude.{vec_len, vec_capacity}
use Rattle.std.specs.Mem.Slots.{slots_items}
use Rattle.sp_word.specs.Word.{word_of}
use Rattle.sp_offer.proofs.atomic_words.Words.close.Given as goal

-- the words so far are those that are left, and the list has room for all
abbrev pub invariant-loop-place : goal.invariant-loop-place
invariant-loop-place g l = record {
  size : vec_len l.words ≡ l.place;
  room : l.count ≤ vec_capacity l.words;
  made : l.words.items ≡ map (word_of g.row.P) (take l.place (slots_items l.closed.words));
}
