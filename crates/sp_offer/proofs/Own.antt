-- A caller's own calls: each stays what it was while the history goes on.
use Rattle.std.proofs.Common.{◌≡◌, ℕ, ◌<◌, ◌≤◌, ◌==◌, Bool, cond, zero, suc, List, [], ◌∷◌, ◌++◌, map, length, get_or, refl, sym, ap, ap₂, ◌∙◌, subst, arith, eq-eqb, append_assoc}
use Rattle.std.proofs.lemmas.Bool.Decides.{nat_tests}
use Rattle.std.proofs.lemmas.List.Sums.{sum_by-cons}
use mathlib.Core.List.{IsPrefix, map-append}
use Rattle.sp_word.specs.Word.{Word, Unreached}
use Rattle.sp_word.specs.History.{Event, Read}
use Rattle.sp_offer.specs.Histories.{event}
use Rattle.sp_offer.specs.Story.{Story, once_below, IsOnce, IsStory, own_calls, Calls, Follows}

abbrev at : List Event → ℕ → Event
at seen p = get_or seen p (event 0 0 (Read Unreached))

at_begin : (xs ys : List Event) (p : ℕ) → p < length xs → at (xs ++ ys) p ≡ at xs p
at_begin [] ys p h = absurd (omega arith)
at_begin (x ∷ xs) ys zero h = refl
at_begin (x ∷ xs) ys (suc p) h = at_begin xs ys p (omega arith)

at_end : (xs : List Event) (e : Event) → at (xs ++ e ∷ []) (length xs) ≡ e
at_end [] e = refl
at_end (x ∷ xs) e = at_end xs e

inside : (q n : ℕ) → 1 ≤ once_below q n → q < n
inside q n h = grind (arith, nat_tests)

abbrev one_if : Bool → ℕ
one_if b = cond b 1 0

-- a longer history has the same calls at the places of a shorter one
calls_stay : (seen more : List Event) (own : List ℕ) → IsOnce own (length seen) → map (at (seen ++ more)) own ≡ map (at seen) own
calls_stay seen more [] once = refl
calls_stay seen more (q ∷ own) once =
    let one = ap one_if (eq-eqb q q refl) in
    let here : q < length seen = inside q (length seen) (omega (arith, once q, one, sum_by-cons (λ (x : ℕ). cond (x == q) 1 0) q own)) in
    ap₂ (λ (e : Event) (es : List Event). e ∷ es) (at_begin seen more q here)
    (calls_stay seen more own (λ p. omega (arith, once p, sum_by-cons (λ (x : ℕ). cond (x == p) 1 0) q own)))

-- the same at any beginning
pub calls_along : (s : Story) (seen : List Event) → IsOnce s.own (length s.seen) → IsPrefix s.seen seen → map (at seen) s.own ≡ own_calls s
calls_along s seen once (more, same) = subst (λ (l : List Event). map (at l) s.own ≡ own_calls s) same (calls_stay s.seen more s.own once)

-- a call is one more of the caller's own
pub own_more : (law : ℕ → Word → Type 0) (e : Event) (s t : Story) → IsStory s → Calls law e s t → own_calls t ≡ own_calls s ++ e ∷ []
own_more law e s t good h = let log : List Event = s.seen ++ h.between in
    ap₂ (λ (seen : List Event) (own : List ℕ). map (at seen) own) h.seen h.own
    ∙ (map-append (at (log ++ e ∷ [])) s.own (length log ∷ [])
    ∙ ap₂ (λ (a b : List Event). a ++ b) (calls_along s (log ++ e ∷ []) good.once (h.between ++ e ∷ [], sym (append_assoc s.seen h.between (e ∷ [])))) (ap (λ (x : Event). x ∷ []) (at_end log e)))

-- the calls of a joined caller are those of both
pub own_joined : (law : ℕ → Word → Type 0) (r s t : Story) → IsStory r → IsStory s → Follows law r s t → t.own ≡ r.own ++ s.own → own_calls t ≡ own_calls r ++ own_calls s
own_joined law r s t a b h own = ap (map (at t.seen)) own ∙ (map-append (at t.seen) r.own s.own ∙ ap₂ (λ (x y : List Event). x ++ y) (calls_along r t.seen a.once h.first) (calls_along s t.seen b.once h.second))

-- a look changes none of them
pub own_stay : (law : ℕ → Word → Type 0) (r s t : Story) → IsStory r → Follows law r s t → t.own ≡ r.own → own_calls t ≡ own_calls r
own_stay law r s t a h own = ap (map (at t.seen)) own ∙ calls_along r t.seen a.once h.first
