use Rattle.std.proofs.Common.{rules, arith, ◌≡◌, ℕ, ◌+◌, ◌<◌, ◌≤◌, true, List, [], ◌∷◌, ◌++◌, map, take, length, get_or, refl, sym, ap, ap₂, ◌∙◌, subst}
use Rattle.std.proofs.lemmas.List.{take_more, take_all, map-append}
use Rattle.std.specs.Mem.Slots.{slots_items, slots_len, slots_counts}
use Rattle.sp_word.specs.Word.{Word, word_of, is_word, is_layout}
use Rattle.sp_offer.proofs.Endings.{elem_is, left_word, is_end}
use Rattle.sp_offer.proofs.atomic_words.Words.close.Goals as goal

-- one more word
grown : (f : ℕ → Word) (ws : List ℕ) (words : List Word) (i b : ℕ) → i < length ws → get_or ws i 0 ≡ b → words ≡ map f (take i ws) → words ++ f b ∷ [] ≡ map f (take (i + 1) ws)
grown f ws words i b inside is made = ap₂ (λ (l : List Word) (k : ℕ). l ++ f k ∷ []) made (sym is) ∙ (sym (map-append f (take i ws) (get_or ws i 0 ∷ [])) ∙ ap (map f) (sym (take_more ws i 0 inside)))

pub from_bits-requires : goal.from_bits-requires
from_bits-requires g c = let self = c.args.self in let key = self.table.shared.key in let closed = c.close_with-closed in let inside : c.loop-place.place < key.vertices = search rules in (
  omega arith,
  (
    subst (λ (k : ℕ). is_layout k ≡ true) (sym c.requires.layout) self.layout,
    subst (λ (k : ℕ). is_word k c.word.result ≡ true) (sym c.requires.layout)
        (left_word key.layout self.layout (g.L.Lawful.allows key.law) key.vertices c.args.seat.id c.args.seat.me.0 (slots_items closed.result.words) (slots_items closed.result.slots) closed.ensures.values.2 c.loop-place.place c.word.result inside c.word.ensures),
  ),
)

pub loop-place-preserved : goal.loop-place-preserved
loop-place-preserved g c =
    let ws : List ℕ = slots_items c.close_with-closed.result.words in
    let long : length ws ≡ slots_len c.close_with-closed.result.words = sym (slots_counts c.close_with-closed.result.words).0 in
    let inside : c.loop-place.place < length ws = omega (arith, long, c.close_with-closed.ensures.counts.0, c.args.self.wide, c.count-count.ensures.count) in record {
      size = search rules;
      room = search rules;
      made = c.push_reserved.ensures.items ∙ (ap (λ (w : Word). c.loop-place.words.items ++ w ∷ []) c.from_bits.ensures.word
          ∙ grown (word_of g.row.P) ws c.loop-place.words.items c.loop-place.place c.word.result inside (elem_is ws c.loop-place.place c.word.result c.word.ensures) c.loop-place.invariant.made);
    }

pub returns-clause-end : goal.returns-clause-end
returns-clause-end g c =
    let self = c.args.self in
    let key = self.table.shared.key in
    let closed = c.close_with-closed in
    let ws : List ℕ = slots_items closed.result.words in
    let long : length ws ≡ slots_len closed.result.words = sym (slots_counts closed.result.words).0 in
    let wide : length ws ≡ key.vertices = omega (arith, long, closed.ensures.counts.0, self.wide) in
    let all : length ws ≤ c.loop-place.place = omega (arith, wide, c.count-count.ensures.count) in
    is_end key.layout self.layout (g.L.Lawful.allows key.law) key.vertices c.args.seat.id c.args.seat.me.0 ws (slots_items closed.result.slots) closed.ensures.values.2 _ c.loop-place.words.items wide refl refl refl
    (c.loop-place.invariant.made ∙ (ap (map (word_of g.row.P)) (take_all c.loop-place.place ws all) ∙ ap (λ (k : ℕ). map (word_of k) ws) c.requires.layout))
