-- The end of a table.
use Rattle.std.proofs.Common.{◌≡◌, ℕ, zero, suc, ◌+◌, ◌-◌, ◌<◌, ◌≤◌, true, List, [], ◌∷◌, map, length, get_or, sum_by, refl, sym, ap, ◌∙◌, subst, arith}
use Rattle.std.proofs.lemmas.List.{get_or-map, length-map}
use Rattle.std.proofs.lemmas.List.Sums.{sum_by-cons}
use mathlib.Core.List.{IsPrefix}
use mathlib.Core.Option.{some, some-injective, some-ne-none}
use lib.ListN.{get_elem?}
use Rattle.atomic_table.specs.Table.{State, Final, Seen}
use Rattle.atomic_table.proofs.Lists.{at_map}
use Rattle.sp_word.specs.Word.{Word, Unreached, is_layout, is_word, word_of}
use Rattle.sp_word.specs.History.{run}
use Rattle.sp_offer.specs.Order.{lawful}
use Rattle.sp_offer.specs.Histories.{blank}
use Rattle.sp_offer.specs.Interleaving.{TakenStep, AreWithin}
use Rattle.sp_offer.specs.Trail.{Found, turns_of, AreTaken, EachTaken}
use Rattle.sp_offer.specs.Story.{Story, Knowledge, times, copied_word}
use Rattle.sp_offer.specs.Sight.{Sight, story}
use Rattle.sp_offer.specs.Rule.{rule}
use Rattle.sp_offer.specs.Ending.{IsEnd}
use Rattle.sp_offer.proofs.Moves.{lawful_pairs, spells, is_there}

pub elem_is : (ws : List ℕ) (i b : ℕ) → get_elem? ws i ≡ some b → get_or ws i 0 ≡ b
elem_is [] i b e = absurd (some-ne-none b (sym e))
elem_is (w ∷ ws) zero b e = some-injective w b e
elem_is (w ∷ ws) (suc i) b e = elem_is ws i b e

sum_of_own : (p : ℕ) (vs : List Sight) → sum_by (times p) (map (λ (v : Sight). v.own) vs) ≡ sum_by (λ (v : Sight). times p v.own) vs
sum_of_own p [] = refl
sum_of_own p (v ∷ vs) = omega (arith, sum_of_own p vs, sum_by-cons (times p) v.own (map (λ (u : Sight). u.own) vs), sum_by-cons (λ (u : Sight). times p u.own) v vs)

sum_of_turns : (p : ℕ) (vs : List Sight) → sum_by (λ (l : List Found). times p (turns_of l)) (map (λ (v : Sight). v.trail) vs) ≡ sum_by (λ (v : Sight). times p (turns_of v.trail)) vs
sum_of_turns p [] = refl
sum_of_turns p (v ∷ vs) = omega (
  arith,
  sum_of_turns p vs,
  sum_by-cons (λ (l : List Found). times p (turns_of l)) v.trail (map (λ (u : Sight). u.trail) vs),
  sum_by-cons (λ (u : Sight). times p (turns_of u.trail)) v vs,
)

module _ {S : Type 0} (P : ℕ) (layout : is_layout P ≡ true) (allows : ℕ → Word → Type 0) (n id : ℕ) (v : Sight) (ws : List ℕ) (xs : List S) (end : Final (Seen (rule P (lawful P allows) n) id v) ws xs) where
  -- each number that is left spells a word
  pub left_word : (i b : ℕ) → i < n → get_elem? ws i ≡ some b → is_word P b ≡ true
  left_word i b inside there = let s : State S Sight = end.0 in
      subst (λ (k : ℕ). is_word P k ≡ true) (ap (λ (l : List ℕ). get_or l i 0) end.2 ∙ elem_is ws i b there) (is_there P layout (lawful P allows) (lawful P allows) (lawful_pairs P allows) n (λ u w h. h) s end.1.0 i inside)

  all_taken : (steps : List TakenStep) (vs : List Sight) → ((j : ℕ) (u : Sight) → get_elem? vs j ≡ some u → AreTaken steps u.trail) → EachTaken steps (map (λ (u : Sight). u.trail) vs)
  all_taken steps [] h = tt
  all_taken steps (u ∷ vs) h = (h 0 u refl, all_taken steps vs (λ j. h (suc j)))

  pub is_end : (caller : Knowledge) (words : List Word) → length ws ≡ n → caller.number ≡ id → caller.story ≡ story v → caller.trail ≡ v.trail → words ≡ map (word_of P) ws → IsEnd (lawful P allows) caller words
  is_end caller words wide number same steps are = let s : State S Sight = end.0 in let r = end.1.0 in
      let many : n ≡ length words = sym (ap length are ∙ (length-map ws (word_of P) ∙ wide)) in
      let all : length s.views ≡ length (map (λ (u : Sight). u.own) s.views) = sym (length-map s.views (λ (u : Sight). u.own)) in record {
        history = r.log;
        legal = r.legal;
        lawful = r.lawful;
        seen = subst (λ (t : Story). IsPrefix t.seen r.log) (sym same) (r.begins id v end.1.1).0;
        ends = λ u low few. let inside : u - 1 < length ws = omega (arith, ap length are, length-map ws (word_of P)) in let here : u - 1 + 1 ≡ u = omega arith in
            ap (λ (l : List Word). copied_word l u) are
            ∙ (get_or-map (word_of P) ws (u - 1) 0 Unreached inside
            ∙ (ap (λ (l : List ℕ). word_of P (get_or l (u - 1) 0)) (sym end.2)
            ∙ (spells P layout (lawful P allows) (lawful P allows) (lawful_pairs P allows) n (λ _ _ h. h) s r (u - 1) (omega (arith, wide)) ∙ ap (run blank r.log) here)));
        owns = map (λ (u : Sight). u.own) s.views;
        mine = (λ i. get_elem? (map (λ (u : Sight). u.own) s.views) (number i)) ∙ (at_map (λ (u : Sight). u.own) s.views id v end.1.1 ∙ ap (λ (t : Story). some t.own) (sym same));
        owned = λ p. sum_of_own p s.views ∙ r.owned p;
        steps = r.steps;
        interleaved = r.interleaved;
        calls = r.calls;
        trails = map (λ (u : Sight). u.trail) s.views;
        my_trail = (λ i. get_elem? (map (λ (u : Sight). u.trail) s.views) (number i)) ∙ (at_map (λ (u : Sight). u.trail) s.views id v end.1.1 ∙ ap some (sym steps));
        taken = all_taken r.steps s.views r.taken;
        told = λ p. sum_of_turns p s.views ∙ r.told p;
        within = subst (λ (k : ℕ × ℕ). AreWithin k.0 k.1 r.steps) (λ i. (many i, all i)) r.within;
      }
