-- The words that the steps of an offer find.
use Rattle.std.proofs.Common.{◌≡◌, ◌≢◌, ℕ, suc, ◌+◌, ◌<◌, ◌≤◌, ◌==◌, nat_lt, if◌then◌else◌, Bool, true, false, List, [], ◌∷◌, ◌++◌, length, refl, sym, ap, ap₂, ◌∙◌, subst, arith, append_assoc, append-nil, length-append, eq-eqb}
use mathlib.Core.List.{IsPrefix, map-append}
use Rattle.std.proofs.lemmas.Bool.{cond-true, cond-false, lt-ltb, le-ltb, eqb-true, and_from, and_parts}
use Rattle.sp_word.specs.declared.reply.Reply.{Reply}
use Rattle.sp_word.specs.declared.reply.Reply.TheVariants.{Shorter, SmallerPred, Kept}
use Rattle.sp_word.specs.Word.{Word, Unreached, Pair, Fits, is_layout, is_word, is_below, is_same, bits_of, word_of}
use Rattle.sp_word.specs.History.{Event}
use Rattle.sp_word.specs.Reply.{reply_to}
use Rattle.sp_word.specs.Offering.{OfferStage, Before, Holding, Over, offer_step, offer_steps}
use Rattle.sp_offer.specs.Histories.{is_smaller}
use Rattle.sp_offer.specs.Trail.{Found, words_of, AreOf, Stand}
use Rattle.sp_offer.specs.Story.{Knowledge}
use Rattle.sp_offer.specs.Sight.{Sight, story}
use Rattle.sp_offer.specs.Rule.{answer_event, Finds, EndsWith}
use Rattle.sp_offer.specs.Lowering.{Grows, HasFound, Takes, by_steps}
use Rattle.sp_offer.specs.Calling.{ReadsBy, Copies}
use Rattle.sp_offer.proofs.Orders.{smaller_is_below}
use Rattle.sp_offer.proofs.Ties.{spelled, word_fits, bits_below}

-- ## Tests of words

same_itself : (a : Word) → is_same a a ≡ true
same_itself Unreached = refl
same_itself (Pair d p) = and_from (d == d) (p == p) (eq-eqb d d refl) (eq-eqb p p refl)

pub same_is : (a b : Word) → is_same a b ≡ true → a ≡ b
same_is Unreached Unreached h = refl
same_is Unreached (Pair e q) h = cc
same_is (Pair d p) Unreached h = cc
same_is (Pair d p) (Pair e q) h = let parts = and_parts (d == e) (p == q) h in ap₂ Pair (eqb-true d e parts.0) (eqb-true p q parts.1)

not_true : (b : Bool) → (b ≡ true → ⊥) → b ≡ false
not_true true h = absurd (h refl)
not_true false h = refl

kept_reply : (r : Reply) → is_smaller r ≡ false → r ≡ Kept
kept_reply Shorter h = cc
kept_reply SmallerPred h = cc
kept_reply Kept h = refl

-- an offer that isn't below the word found is answered Kept
is_kept : (found word : Word) → is_below word found ≡ false → reply_to found word ≡ Kept
is_kept found word more = kept_reply (reply_to found word) (smaller_is_below found word ∙ more)

-- ## Steps

-- one more step
steps_more : (w : Word) (s : OfferStage) (xs : List Word) (x : Word) → offer_steps w s (xs ++ x ∷ []) ≡ offer_step w (offer_steps w s xs) x
steps_more w s [] x = refl
steps_more w s (y ∷ ys) x = steps_more w (offer_step w s y) ys x

prefix_trans : (xs ys zs : List Event) → IsPrefix xs ys → IsPrefix ys zs → IsPrefix xs zs
prefix_trans xs ys zs (a, p) (b, q) = (a ++ b, sym (append_assoc xs a b) ∙ (ap (λ (l : List Event). l ++ b) p ∙ q))

-- steps that stand behind more, and then steps behind these
stand_behind : (front mid seen : List Event) (gs : List Found) → IsPrefix front mid → Stand mid seen gs → Stand front seen gs
stand_behind front mid seen [] h k = prefix_trans front mid seen h k
stand_behind front mid seen (g ∷ gs) h k = (prefix_trans front mid g.front h k.0, k.1, k.2)

stand_append : (front mid seen : List Event) (fs gs : List Found) → Stand front mid fs → Stand mid seen gs → Stand front seen (fs ++ gs)
stand_append front mid seen [] gs h k = stand_behind front mid seen gs h k
stand_append front mid seen (f ∷ fs) gs h k = (h.0, h.1, stand_append f.front mid seen fs gs h.2 k)

are_append : (v : ℕ) (fs gs : List Found) → AreOf v fs → AreOf v gs → AreOf v (fs ++ gs)
are_append v [] gs h k = k
are_append v (f ∷ fs) gs h k = (h.0, are_append v fs gs h.1 k)

words_append : (fs gs : List Found) → words_of (fs ++ gs) ≡ words_of fs ++ words_of gs
words_append fs gs = map-append (λ (f : Found). f.word) fs gs

words_long : (fs : List Found) → length (words_of fs) ≡ length fs
words_long [] = refl
words_long (f ∷ fs) = ap suc (words_long fs)

abbrev grows_one : (vertex : ℕ) (x : Word) (v w : Sight) → Finds vertex x v w → Grows vertex (story v) (story w) v.trail w.trail
grows_one vertex x v w h = record {
  found = record { front = h.front; vertex = vertex; word = x; turn = h.turn } ∷ [];
  trail = h.trail;
  of = (refl, tt);
  stand = (h.begins, h.here, h.within);
}

abbrev grows_more : (vertex : ℕ) (x : Word) (u v w : Sight) → Grows vertex (story u) (story v) u.trail v.trail → Finds vertex x v w → Grows vertex (story u) (story w) u.trail w.trail
grows_more vertex x u v w g h = let one = grows_one vertex x v w h in record {
  found = g.found ++ one.found;
  trail = one.trail ∙ (ap (λ (l : List Found). l ++ one.found) g.trail ∙ append_assoc u.trail g.found one.found);
  of = are_append vertex g.found one.found g.of one.of;
  stand = stand_append u.seen v.seen w.seen g.found one.found g.stand one.stand;
}

-- a call of one step
pub takes_one : (e : Event) (x : Word) (v w : Sight) → Finds e.vertex x v w → EndsWith e w → Takes e (λ ws. ws ≡ x ∷ []) (story v) (story w) v.trail w.trail
takes_one e x v w h ends = record { grows = grows_one e.vertex x v w h; words = refl; last = ends }

module _ (P : ℕ) (layout : is_layout P ≡ true) (word : Word) (bits : ℕ) (offered : (bits ≡ bits_of P word) × Fits P word) where
  below_bits : (held : ℕ) → is_word P held ≡ true → is_below word (word_of P held) ≡ nat_lt bits held
  below_bits held is = bits_below P word (word_of P held) layout offered.1 (word_fits P held layout is) ∙ ap₂ nat_lt (sym offered.0) (sym (spelled P held layout))

  is_lower : (held : ℕ) → is_word P held ≡ true → bits < held → is_below word (word_of P held) ≡ true
  is_lower held is less = below_bits held is ∙ lt-ltb bits held less

  is_no_lower : (held : ℕ) → is_word P held ≡ true → held ≤ bits → is_below word (word_of P held) ≡ false
  is_no_lower held is small = below_bits held is ∙ le-ltb bits held small

  other_bits : (held found : ℕ) → found ≢ held → is_same (word_of P found) (word_of P held) ≡ false
  other_bits held found miss = not_true (is_same (word_of P found) (word_of P held))
      (λ same. miss (spelled P found layout ∙ (ap (bits_of P) (same_is (word_of P found) (word_of P held) same) ∙ sym (spelled P held layout))))

  -- the stage to which a step leads
  pub load_over : (held : ℕ) → is_word P held ≡ true → held ≤ bits → offer_step word Before (word_of P held) ≡ Over (word_of P held) (reply_to (word_of P held) word)
  load_over held is small = let x : Word = word_of P held in let no = is_no_lower held is small in
      cond-false (is_below word x) (Holding x) (Over x Kept) no ∙ ap (Over x) (sym (is_kept x word no))

  pub load_holds : (held : ℕ) → is_word P held ≡ true → bits < held → offer_step word Before (word_of P held) ≡ Holding (word_of P held)
  load_holds held is less = let x : Word = word_of P held in cond-true (is_below word x) (Holding x) (Over x Kept) (is_lower held is less)

  module _ (held found : ℕ) where
    abbrev goes_on : OfferStage
    goes_on = if is_below word (word_of P found) then Holding (word_of P found) else Over (word_of P found) Kept

    pub exchange_won : found ≡ held → offer_step word (Holding (word_of P held)) (word_of P found) ≡ Over (word_of P found) (reply_to (word_of P found) word)
    exchange_won hit = let x : Word = word_of P found in
        cond-true (is_same x (word_of P held)) (Over x (reply_to x word)) goes_on (subst (λ (k : ℕ). is_same x (word_of P k) ≡ true) hit (same_itself x))

    exchange_lost : found ≢ held → offer_step word (Holding (word_of P held)) (word_of P found) ≡ goes_on
    exchange_lost miss = let x : Word = word_of P found in cond-false (is_same x (word_of P held)) (Over x (reply_to x word)) goes_on (other_bits held found miss)

    pub exchange_kept : found ≢ held → is_word P found ≡ true → found ≤ bits → offer_step word (Holding (word_of P held)) (word_of P found) ≡ Over (word_of P found) (reply_to (word_of P found) word)
    exchange_kept miss is small = exchange_lost miss ∙ load_over found is small

    pub exchange_holds : found ≢ held → is_word P found ≡ true → bits < found → offer_step word (Holding (word_of P held)) (word_of P found) ≡ Holding (word_of P found)
    exchange_holds miss is less = exchange_lost miss ∙ load_holds found is less

  module _ (by vertex : ℕ) where
    -- the load
    pub found_first : (held : ℕ) (v w : Sight) → is_word P held ≡ true → Finds vertex (word_of P held) v w → (held ≤ bits → EndsWith (answer_event by vertex word (word_of P held)) w) → HasFound P by vertex word bits held 1 v w
    found_first held v w is finds last = let x : Word = word_of P held in record {
      grows = grows_one vertex x v w finds;
      count = refl;
      holds = λ less. cond-true (is_below word x) (Holding x) (Over x Kept) (is_lower held is less);
      over = λ small. let no = is_no_lower held is small in record {
        grows = grows_one vertex x v w finds;
        words = (refl, cond-false (is_below word x) (Holding x) (Over x Kept) no ∙ ap (Over x) (sym (is_kept x word no)));
        last = last small;
      };
    }

    module _ (held found tries : ℕ) (u v w : Sight) (h : HasFound P by vertex word bits held tries u v) (less : bits < held) (is : is_word P found ≡ true) (more : Finds vertex (word_of P found) v w) where
      abbrev x : Word
      x = word_of P found

      abbrev y : Word
      y = word_of P held

      abbrev one : List Found
      one = record { front = more.front; vertex = vertex; word = x; turn = more.turn } ∷ []

      counted : length (h.grows.found ++ one) ≡ tries + 1
      counted = omega (arith, length-append h.grows.found one, h.count)

      stepped : offer_steps word Before (words_of (h.grows.found ++ one)) ≡ offer_step word (Holding y) x
      stepped = ap (offer_steps word Before) (words_append h.grows.found one) ∙ (steps_more word Before (words_of h.grows.found) x ∙ ap (λ (s : OfferStage). offer_step word s x) (h.holds less))

      abbrev other : OfferStage
      other = if is_below word x then Holding x else Over x Kept

      -- an exchange that is lost
      pub found_more : found ≢ held → (found ≤ bits → EndsWith (answer_event by vertex word x) w) → HasFound P by vertex word bits found (tries + 1) u w
      found_more miss last = let lost = stepped ∙ cond-false (is_same x y) (Over x (reply_to x word)) other (other_bits held found miss) in record {
        grows = grows_more vertex x u v w h.grows more;
        count = counted;
        holds = λ lower. lost ∙ cond-true (is_below word x) (Holding x) (Over x Kept) (is_lower found is lower);
        over = λ small. let no = is_no_lower found is small in record {
          grows = grows_more vertex x u v w h.grows more;
          words = (words_long (h.grows.found ++ one) ∙ counted, lost ∙ (cond-false (is_below word x) (Holding x) (Over x Kept) no ∙ ap (Over x) (sym (is_kept x word no))));
          last = last small;
        };
      }

      -- an exchange that is won
      pub found_won : found ≡ held → EndsWith (answer_event by vertex word x) w → Takes (answer_event by vertex word x) (by_steps word x (tries + 1)) (story u) (story w) u.trail w.trail
      found_won hit last = let same : is_same x y ≡ true = subst (λ (k : ℕ). is_same x (word_of P k) ≡ true) hit (same_itself x) in record {
        grows = grows_more vertex x u v w h.grows more;
        words = (words_long (h.grows.found ++ one) ∙ counted, stepped ∙ cond-true (is_same x y) (Over x (reply_to x word)) other same);
        last = last;
      }

-- ## Copies

pub copies_none : (k : Knowledge) → Copies [] k k
copies_none k = record { found = []; trail = sym (append-nil k.trail); finds = refl; stand = ([], append-nil k.story.seen) }

pub copies_more : (ws : List Word) (x : Word) (v : ℕ) (a b c : Knowledge) → Copies ws a b → ReadsBy v x b c → Copies (ws ++ x ∷ []) a c
copies_more ws x v a b c h k = record {
  found = h.found ++ k.grows.found;
  trail = k.grows.trail ∙ (ap (λ (l : List Found). l ++ k.grows.found) h.trail ∙ append_assoc a.trail h.found k.grows.found);
  finds = words_append h.found k.grows.found ∙ ap₂ (λ (l m : List Word). l ++ m) h.finds k.words;
  stand = stand_append a.story.seen b.story.seen c.story.seen h.found k.grows.found h.stand k.grows.stand;
}
