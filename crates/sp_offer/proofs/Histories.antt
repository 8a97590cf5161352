-- What holds of histories: how they go on, and that words only fall.
use Rattle.std.proofs.Common.{◌≡◌, ℕ, ◌==◌, inr, List, [], ◌∷◌, ◌++◌, refl, sym, ap, ◌∙◌, subst, append_assoc}
use Rattle.std.proofs.lemmas.Bool.{cond_both, eqb-true}
use mathlib.Core.List.{IsPrefix}
use Rattle.sp_word.specs.Word.{Word, is_below}
use Rattle.sp_word.specs.History.{Table, Event, Call, Offer, Read, IsAnswered, left_by, after, run, IsLegal}
use Rattle.sp_offer.specs.Order.{IsNoMore, IsKnownWord}
use Rattle.sp_offer.specs.Histories.{blank, found_by, IsLawful, AreLawful}
use Rattle.sp_offer.proofs.Orders.{at_most-refl, at_most-trans, lesser_at_most}

pub run_append : (t : Table) (xs ys : List Event) → run t (xs ++ ys) ≡ run (run t xs) ys
run_append t [] ys = refl
run_append t (x ∷ xs) ys = run_append (after t x) xs ys

pub legal_append : (t : Table) (xs ys : List Event) → IsLegal t xs → IsLegal (run t xs) ys → IsLegal t (xs ++ ys)
legal_append t [] ys a b = b
legal_append t (x ∷ xs) ys a b = (a.0, legal_append (after t x) xs ys a.1 b)

pub legal_rest : (t : Table) (xs ys : List Event) → IsLegal t (xs ++ ys) → IsLegal (run t xs) ys
legal_rest t [] ys a = a
legal_rest t (x ∷ xs) ys a = legal_rest (after t x) xs ys a.1

pub legal_begin : (t : Table) (xs ys : List Event) → IsLegal t (xs ++ ys) → IsLegal t xs
legal_begin t [] ys a = tt
legal_begin t (x ∷ xs) ys a = (a.0, legal_begin (after t x) xs ys a.1)

pub lawful_append : (law : ℕ → Word → Type 0) (xs ys : List Event) → AreLawful law xs → AreLawful law ys → AreLawful law (xs ++ ys)
lawful_append law [] ys a b = b
lawful_append law (x ∷ xs) ys a b = (a.0, lawful_append law xs ys a.1 b)

left_at_most : (c : Call) (x : Word) → IsNoMore (left_by c x) x
left_at_most (Offer word found reply) x = lesser_at_most x word
left_at_most (Read found) x = at_most-refl x

after_at_most : (t : Table) (e : Event) (v : ℕ) → IsNoMore (after t e v) (t v)
after_at_most t e v = cond_both (v == e.vertex) (left_by e.call (t v)) (t v) (λ (w : Word). IsNoMore w (t v)) (λ _. left_at_most e.call (t v)) (λ _. at_most-refl (t v))

-- words only fall
pub falls : (t : Table) (es : List Event) (v : ℕ) → IsNoMore (run t es v) (t v)
falls t [] v = at_most-refl (t v)
falls t (e ∷ es) v = at_most-trans (run (after t e) es v) (after t e v) (t v) (falls (after t e) es v) (after_at_most t e v)

pub falls_along : (xs ys : List Event) (v : ℕ) → IsPrefix xs ys → IsNoMore (run blank ys v) (run blank xs v)
falls_along xs ys v (rest, same) = subst (λ (zs : List Event). IsNoMore (run blank zs v) (run blank xs v)) same
    (subst (λ (t : Table). IsNoMore (t v) (run blank xs v)) (sym (run_append blank xs rest)) (falls (run blank xs) rest v))

known_left : (law : ℕ → Word → Type 0) (v : ℕ) (c : Call) (x : Word) → IsLawful law v c → IsKnownWord law v x → IsKnownWord law v (left_by c x)
known_left law v (Offer word found reply) x fits known = cond_both (is_below word x) word x (IsKnownWord law v) (λ _. inr fits) (λ _. known)
known_left law v (Read found) x fits known = known

known_after : (law : ℕ → Word → Type 0) (t : Table) (e : Event) (v : ℕ) → IsLawful law e.vertex e.call → IsKnownWord law v (t v) → IsKnownWord law v (after t e v)
known_after law t e v fits known = cond_both (v == e.vertex) (left_by e.call (t v)) (t v) (IsKnownWord law v)
    (λ here. known_left law v e.call (t v) (subst (λ (u : ℕ). IsLawful law u e.call) (sym (eqb-true v e.vertex here)) fits) known) (λ _. known)

-- every word is unreached or one that the law allows
pub known_run : (law : ℕ → Word → Type 0) (t : Table) (es : List Event) → AreLawful law es → ((v : ℕ) → IsKnownWord law v (t v)) → (v : ℕ) → IsKnownWord law v (run t es v)
known_run law t [] fits known v = known v
known_run law t (e ∷ es) fits known v = known_run law (after t e) es fits.1 (λ u. known_after law t e u fits.0 (known u)) v

pub prefix_append : (xs ys zs : List Event) → IsPrefix xs ys → IsPrefix xs (ys ++ zs)
prefix_append xs ys zs (rest, same) = (rest ++ zs, sym (append_assoc xs rest zs) ∙ ap (λ (l : List Event). l ++ zs) same)

-- the word that an answer tells is the one that was there
pub found_answered : (x : Word) (c : Call) → IsAnswered x c → found_by c ≡ x
found_answered x (Offer word found reply) h = h.0
found_answered x (Read found) h = h
