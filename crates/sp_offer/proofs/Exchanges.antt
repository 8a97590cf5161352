-- How an offer goes on from one exchange to the next.
use Rattle.std.proofs.Common.{◌≡◌, ◌≢◌, ℕ, ◌+◌, ◌<◌, ◌≤◌, ◌==◌, true, cond, List, [], ◌∷◌, ◌++◌, refl, sym, ap, ◌∙◌, subst, arith, append_assoc, eq-eqb}
use Rattle.std.proofs.lemmas.Bool.{lt-ltb, and_from}
use Rattle.std.proofs.lemmas.List.Sums.{sum_by-append}
use mathlib.Core.Logic.{dite}
use native.Mathlib.Decide.{ℕ_discrete, dec_le}
use Rattle.sp_word.specs.Word.{Word, Fits, is_layout, is_word, bits_of, word_of}
use Rattle.sp_word.specs.History.{Table, Event, run, IsLegal}
use Rattle.sp_word.specs.Reply.{reply_to}
use Rattle.sp_offer.specs.Order.{IsNoMore}
use Rattle.sp_offer.specs.Histories.{blank, is_smaller, lowerings}
use Rattle.sp_offer.specs.Story.{Story, Looks, Calls, IsTried, known_table}
use Rattle.sp_offer.specs.Rule.{answer_event}
use Rattle.sp_offer.specs.Lowering.{IsUnderWay, IsExchanged}
use Rattle.sp_offer.proofs.Orders.{smaller_is_below}
use Rattle.sp_offer.proofs.Ties.{spelled, word_fits, pair_small, bits_below, at_most_bits}
use Rattle.sp_offer.proofs.Histories.{run_append, legal_rest, legal_begin, falls_along}
use Rattle.sp_offer.proofs.CallKnowledge.{look_then_look, look_then_call, lowers, one_or_none, lowered_between, tried_more}

-- a word that is another after a part of a legal history was lowered in that part
changed : (vertex : ℕ) (x y : Word) (s : Story) (more : List Event) → IsLegal blank (s.seen ++ more) → run blank s.seen vertex ≡ x → run blank (s.seen ++ more) vertex ≡ y → y ≢ x → 1 ≤ lowerings vertex more
changed vertex x y s more legal was is other = lowered_between (run blank s.seen) more vertex (legal_rest blank s.seen more legal)
    (λ same. other (sym is ∙ (ap (λ (f : Table). f vertex) (run_append blank s.seen more) ∙ (same ∙ was))))

-- an exchange that is lost found lesser bits
fallen : (P : ℕ) (law : ℕ → Word → Type 0) (by vertex : ℕ) (word : Word) (bits held found : ℕ) (s t : Story) → is_layout P ≡ true → bits < held → is_word P held ≡ true → known_table s vertex ≡ word_of P held
    → IsExchanged P law by vertex word bits held found s t → found ≢ held → found < held
fallen P law by vertex word bits held found s t layout less holds was step miss = dite (dec_le found bits) (λ small. omega arith) (λ more.
    let look = step.lost miss (omega arith) in
    let fall : IsNoMore (word_of P found) (word_of P held) = subst (IsNoMore (word_of P found)) was (subst (λ (w : Word). IsNoMore w (run blank s.seen vertex)) look.last (falls_along s.seen t.seen vertex (look.between, sym look.seen))) in
    let le : bits_of P (word_of P found) ≤ bits_of P (word_of P held) = at_most_bits P (word_of P found) (word_of P held) layout (word_fits P found layout step.is_word) (word_fits P held layout holds) fall in
    let sx : held ≡ bits_of P (word_of P held) = spelled P held layout in let sy : found ≡ bits_of P (word_of P found) = spelled P found layout in omega arith)

module _ (P : ℕ) (layout : is_layout P ≡ true) where
  -- other bits spell another word
  other_word : (x y : ℕ) → y ≢ x → word_of P y ≢ word_of P x
  other_word x y other same = other (spelled P y layout ∙ (ap (bits_of P) same ∙ sym (spelled P x layout)))

  module _ (law : ℕ → Word → Type 0) (vertex x y : ℕ) where
    tried_again : (tries : ℕ) (r s t : Story) → Looks law vertex (word_of P x) r s → Looks law vertex (word_of P y) s t → y ≢ x → IsTried vertex r s tries → IsTried vertex r t (tries + 1)
    tried_again tries r s t a b other tried = tried_more vertex r s t a.between b.between tries a.seen b.seen
        (changed vertex (word_of P x) (word_of P y) s b.between (subst (IsLegal blank) b.seen b.is_story.legal) a.last (ap (λ (l : List Event). run blank l vertex) (sym b.seen) ∙ b.last) (other_word x y other)) tried

    tried_last : (by tries : ℕ) (word : Word) (r s t : Story) → Fits P word → is_word P y ≡ true → bits_of P word < x → Looks law vertex (word_of P x) r s
        → Calls law (answer_event by vertex word (word_of P y)) s t → IsTried vertex r s tries → IsTried vertex r t (tries + 1)
    tried_last by tries word r s t fits wy less a b tried = let e : Event = answer_event by vertex word (word_of P y) in
        tried_more vertex r s t a.between (b.between ++ e ∷ []) tries a.seen (b.seen ∙ append_assoc s.seen b.between (e ∷ [])) (dite (ℕ_discrete y x)
        (λ same. let one = ap one_or_none (lowers_here same) in omega (arith, one, sum_by-append (λ (z : Event). cond (lowers vertex z) 1 0) b.between (e ∷ [])))
        (λ other. let some = changed vertex (word_of P x) (word_of P y) s b.between (legal_begin blank (s.seen ++ b.between) (e ∷ []) (subst (IsLegal blank) b.seen b.is_story.legal)) a.last b.last (other_word x y other) in
        omega (arith, some, sum_by-append (λ (z : Event). cond (lowers vertex z) 1 0) b.between (e ∷ [])))) tried
      where
        lowers_here : y ≡ x → lowers vertex (answer_event by vertex word (word_of P y)) ≡ true
        lowers_here same = and_from (vertex == vertex) (is_smaller (reply_to (word_of P y) word)) (eq-eqb vertex vertex refl)
            (smaller_is_below (word_of P y) word
            ∙ (bits_below P word (word_of P y) layout fits (word_fits P y layout wy)
            ∙ (lt-ltb (bits_of P word) (bits_of P (word_of P y)) (let sf : y ≡ bits_of P (word_of P y) = spelled P y layout in omega arith))))

module _ (P : ℕ) (law : ℕ → Word → Type 0) (by vertex : ℕ) (word : Word) (bits held found tries : ℕ) (r s t : Story)
    (way : IsUnderWay P law by vertex word bits held tries r s) (less : bits < held) (step : IsExchanged P law by vertex word bits held found s t) where
  below : bits_of P word < held
  below = subst (λ (k : ℕ). k < held) way.offered.0 less

  -- ## A win ends the call

  pub won_call : found ≡ held → Calls law (answer_event by vertex word (word_of P found)) r t
  won_call hit = look_then_call law vertex (word_of P held) (answer_event by vertex word (word_of P found)) r s t (way.seen less) (step.won hit)

  pub won_tries : found ≡ held → IsTried vertex r t (tries + 1)
  won_tries hit = tried_last P way.layout law vertex held found by tries word r s t way.offered.1 step.is_word below (way.seen less) (step.won hit) way.tried

  -- ## A loss found a lesser word

  pub lost_less : found ≢ held → found < held
  lost_less miss = fallen P law by vertex word bits held found s t way.layout less way.is_word (way.seen less).last step miss

  lost_few : found ≢ held → 1 < tries + 1 → tries + 1 + found < 18446744073709551616
  lost_few miss some = let small : found < held = lost_less miss in let fits : held < 18446744073709551616 = way.fits in dite (dec_le 2 tries)
      (λ many. let few = way.few (omega arith) in omega arith)
      (λ first. let pair = pair_small P found way.layout step.is_word (omega arith) in omega arith)

  pub lost_on : found ≢ held → IsUnderWay P law by vertex word bits found (tries + 1) r t
  lost_on miss = record {
    layout = way.layout;
    offered = way.offered;
    is_word = step.is_word;
    kept = λ small. look_then_call law vertex (word_of P held) (answer_event by vertex word (word_of P found)) r s t (way.seen less) (step.kept small);
    seen = λ more. look_then_look law vertex (word_of P held) (word_of P found) r s t (way.seen less) (step.lost miss more);
    tried = dite (dec_le found bits)
        (λ small. tried_last P way.layout law vertex held found by tries word r s t way.offered.1 step.is_word below (way.seen less) (step.kept small) way.tried)
        (λ more. tried_again P way.layout law vertex held found tries r s t (way.seen less) (step.lost miss (omega arith)) miss way.tried);
    fits = step.fits;
    few = lost_few miss;
  }
