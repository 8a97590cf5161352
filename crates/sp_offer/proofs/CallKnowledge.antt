-- What a call tells its caller of the words, and how often a history lowers a vertex.
use Rattle.std.proofs.Common.{◌≡◌, ◌≢◌, ℕ, ◌+◌, ◌≤◌, ◌==◌, ◌&&◌, Bool, true, false, cond, List, [], ◌∷◌, ◌++◌, length, drop, refl, sym, ap, ◌∙◌, subst, arith, append_assoc, eq-eqb, ne_eqb}
use Rattle.std.proofs.lemmas.Bool.{cond-true, cond-false}
use Rattle.std.proofs.lemmas.List.Sums.{sum_by-cons, sum_by-append}
use mathlib.Core.Logic.{dite}
use mathlib.Core.List.{IsPrefix}
use native.Mathlib.Decide.{ℕ_discrete}
use Rattle.sp_word.specs.Word.{Word, is_below}
use Rattle.sp_word.specs.History.{Table, Event, Call, Offer, Read, IsAnswered, left_by, after, run, IsLegal}
use Rattle.sp_offer.specs.Order.{IsNoMore}
use Rattle.sp_offer.specs.Histories.{blank, is_smaller, is_lowering, lowerings}
use Rattle.sp_offer.specs.Story.{Story, Looks, Calls, Knows, new_calls, IsTried, Follows}
use Rattle.sp_offer.specs.Sight.{Sight, story, merged_sight}
use Rattle.sp_offer.specs.Rule.{Hears}
use Rattle.sp_offer.proofs.Orders.{smaller_is_below}
use Rattle.sp_offer.proofs.Histories.{run_append, falls_along}

-- ## What is known after a call

module _ (law : ℕ → Word → Type 0) where
  pub call_begins : (e : Event) (s t : Story) → Calls law e s t → IsPrefix s.seen t.seen
  call_begins e s t h = (h.between ++ e ∷ [], sym (append_assoc s.seen h.between (e ∷ [])) ∙ sym h.seen)

  pub knows : (e : Event) (s t : Story) → Calls law e s t → Knows e s t
  knows e s t h = let x : Word = run blank (s.seen ++ h.between) e.vertex in record {
    below = subst (λ (w : Word). IsNoMore w (run blank s.seen e.vertex)) h.last (falls_along s.seen (s.seen ++ h.between) e.vertex (h.between, refl));
    here = ap (λ (l : List Event). run blank l e.vertex) h.seen
        ∙ (ap (λ (f : Table). f e.vertex) (run_append blank (s.seen ++ h.between) (e ∷ []))
        ∙ (cond-true (e.vertex == e.vertex) (left_by e.call x) x (eq-eqb e.vertex e.vertex refl) ∙ ap (left_by e.call) h.last));
    falls = λ u. falls_along s.seen t.seen u (call_begins e s t h);
  }

  -- a look, and then another
  pub look_then_look : (vertex : ℕ) (x y : Word) (r s t : Story) → Looks law vertex x r s → Looks law vertex y s t → Looks law vertex y r t
  look_then_look vertex x y r s t a b = record {
    between = a.between ++ b.between;
    seen = b.seen ∙ (ap (λ (l : List Event). l ++ b.between) a.seen ∙ append_assoc r.seen a.between b.between);
    own = b.own ∙ a.own;
    last = b.last;
    lawful = b.lawful;
    words = b.words;
    is_story = b.is_story;
  }

  -- a look, and then the call
  pub look_then_call : (vertex : ℕ) (x : Word) (e : Event) (r s t : Story) → Looks law vertex x r s → Calls law e s t → Calls law e r t
  look_then_call vertex x e r s t a b = let same : s.seen ++ b.between ≡ r.seen ++ (a.between ++ b.between) = ap (λ (l : List Event). l ++ b.between) a.seen ∙ append_assoc r.seen a.between b.between in record {
    between = a.between ++ b.between;
    seen = b.seen ∙ ap (λ (l : List Event). l ++ e ∷ []) same;
    own = b.own ∙ (λ i. a.own i ++ length (same i) ∷ []);
    last = ap (λ (l : List Event). run blank l e.vertex) (sym same) ∙ b.last;
    lawful = b.lawful;
    words = b.words;
    is_story = b.is_story;
  }

-- one look tells a caller what it had seen and what it had heard
pub follows : (law : ℕ → Word → Type 0) (vertex : ℕ) (found : Word) (u v w : Sight) → Hears (merged_sight u v) w → Looks law vertex found (story (merged_sight u v)) (story w) → Follows law (story u) (story v) (story w)
follows law vertex found u v w x h = let begins : IsPrefix u.seen w.seen = (h.between, sym h.seen) in record {
  first = begins;
  second = x.1;
  falls = λ n. (falls_along u.seen w.seen n begins, falls_along v.seen w.seen n x.1);
  words = h.words;
  is_story = h.is_story;
}

-- ## Lowerings

-- a call that is no lowering leaves the word
kept_word : (c : Call) (x : Word) → IsAnswered x c → is_lowering c ≡ false → left_by c x ≡ x
kept_word (Offer word found reply) x answer calm = cond-false (is_below word x) word x (sym (smaller_is_below x word) ∙ (ap is_smaller (sym answer.1) ∙ calm))
kept_word (Read found) x answer calm = refl

abbrev pub lowers : ℕ → Event → Bool
lowers v e = (v == e.vertex) && is_lowering e.call

-- nor does a call of another vertex
keeps_word : (t : Table) (e : Event) (v : ℕ) → IsAnswered (t e.vertex) e.call → lowers v e ≡ false → after t e v ≡ t v
keeps_word t e v answer calm = dite (ℕ_discrete v e.vertex)
    (λ here. cond-true (v == e.vertex) (left_by e.call (t v)) (t v) (eq-eqb v e.vertex here)
    ∙ kept_word e.call (t v) (subst (λ (u : ℕ). IsAnswered (t u) e.call) (sym here) answer) (ap (λ (b : Bool). b && is_lowering e.call) (sym (eq-eqb v e.vertex here)) ∙ calm))
    (λ there. cond-false (v == e.vertex) (left_by e.call (t v)) (t v) (ne_eqb v e.vertex there))

abbrev pub one_or_none : Bool → ℕ
one_or_none b = cond b 1 0

-- a word that changed was lowered
pub lowered_between : (t : Table) (es : List Event) (v : ℕ) → IsLegal t es → run t es v ≢ t v → 1 ≤ lowerings v es
lowered_between t [] v legal changed = absurd (changed refl)
lowered_between t (e ∷ es) v legal changed = one_of (lowers v e) refl (λ same. lowered_between (after t e) es v legal.1 (λ h. changed (h ∙ same)))
  where
    one_of : (b : Bool) → lowers v e ≡ b → (after t e v ≡ t v → 1 ≤ lowerings v es) → 1 ≤ lowerings v (e ∷ es)
    one_of true is later = omega (arith, ap one_or_none is, sum_by-cons (λ (x : Event). cond (lowers v x) 1 0) e es)
    one_of false is later = omega (arith, later (keeps_word t e v legal.0 is), sum_by-cons (λ (x : Event). cond (lowers v x) 1 0) e es)

drop_begin : (xs ys : List Event) → drop (length xs) (xs ++ ys) ≡ ys
drop_begin [] ys = refl
drop_begin (x ∷ xs) ys = drop_begin xs ys

gained_is : (s t : Story) (b : List Event) → t.seen ≡ s.seen ++ b → new_calls s t ≡ b
gained_is s t b seen = ap (drop (length s.seen)) seen ∙ drop_begin s.seen b

-- one more step of the call, in whose part of the history the vertex was lowered
pub tried_more : (vertex : ℕ) (r s t : Story) (a b : List Event) (tries : ℕ) → s.seen ≡ r.seen ++ a → t.seen ≡ s.seen ++ b → 1 ≤ lowerings vertex b → IsTried vertex r s tries → IsTried vertex r t (tries + 1)
tried_more vertex r s t a b tries first second more tried =
    let before = ap (lowerings vertex) (gained_is r s a first) in
    let later = ap (lowerings vertex) (gained_is r t (a ++ b) (second ∙ (ap (λ (l : List Event). l ++ b) first ∙ append_assoc r.seen a b))) in
    let all = sum_by-append (λ (x : Event). cond (lowers vertex x) 1 0) a b in
    let x : ℕ = lowerings vertex a in let y : ℕ = lowerings vertex b in let z : ℕ = lowerings vertex (a ++ b) in
    let p : ℕ = lowerings vertex (new_calls r s) in let q : ℕ = lowerings vertex (new_calls r t) in
    let e1 : p ≡ x = before in let e2 : q ≡ z = later in let e3 : z ≡ x + y = all in let m : 1 ≤ y = more in let k : tries ≤ p + 1 = tried.1 in (omega arith, omega arith)
