-- What turning does to a list of arcs, and to a graph.
use Rattle.std.proofs.Common.{◌≡◌, ℕ, zero, suc, ◌+◌, ◌-◌, ◌*◌, ◌<◌, ◌≤◌, List, [], ◌∷◌, ◌++◌, length, take, drop, slice_index_or, slice_set, refl, sym, subst, ap, ◌∙◌, arith}
use Rattle.std.specs.Prelude.{All, Result, Ok, Err, IfOk}
use Rattle.std.specs.List.Sorted.{IsPermutation}
use Rattle.std.proofs.lemmas.List.{map-append, take-take, take-set-le, drop-set, drop-set-add, drop_more, get_or-take}
use Rattle.std.proofs.lemmas.List.Elements.{All-append, All-map, All-take, All-weaker}
use Rattle.std.proofs.lemmas.List.Sorted.{All-permutation, IsPermutation-refl, IsPermutation-cons, IsPermutation-middle, IsPermutation-sym, IsPermutation-trans, IsPermutation-map, IsPermutation-append_comm}
use Rattle.sp_paths.specs.declared.arc.Arc.{Arc}
use Rattle.sp_paths.specs.Paths.{Graph, IsArc}
use Rattle.sp_network.specs.Turned.{turned_arc, turned, with_turned, IsTurned, IsBothWays, HaveSameArcs}

-- arcs turned twice are themselves
pub turned_again : (arcs : List Arc) → turned (turned arcs) ≡ arcs
turned_again [] = refl
turned_again (a ∷ arcs) = ap (λ rest. a ∷ rest) (turned_again arcs)

-- with one more arc turned in place, one more of them is turned
turned_next : (i : ℕ) (arcs : List Arc) (a d : Arc) → i < length arcs → a ≡ turned_arc (slice_index_or (turned (take i arcs) ++ drop i arcs) i d)
    → slice_set (turned (take i arcs) ++ drop i arcs) i a ≡ turned (take (suc i) arcs) ++ drop (suc i) arcs
turned_next i [] a d within is = absurd (omega (arith, within))
turned_next zero (x ∷ arcs) a d within is = rw is refl
turned_next (suc i) (x ∷ arcs) a d within is = ap (λ rest. turned_arc x ∷ rest) (turned_next i arcs a d (omega (arith, within)) is)

pub one_more : (i : ℕ) (arcs : List Arc) (a d : Arc) → i < length arcs → a ≡ turned_arc (slice_index_or (turned (take i arcs) ++ drop i arcs) i d)
    → slice_set (turned (take i arcs) ++ drop i arcs) i a ≡ turned (take (i + 1) arcs) ++ drop (i + 1) arcs
one_more i arcs a d within is =
    let next : suc i ≡ i + 1 = omega arith in
    subst (λ k. slice_set (turned (take i arcs) ++ drop i arcs) i a ≡ turned (take k arcs) ++ drop k arcs) next (turned_next i arcs a d within is)

-- arcs of a graph are arcs when they are turned
pub turned_are_arcs : (n : ℕ) (arcs : List Arc) → All (IsArc n) arcs → All (IsArc n) (turned arcs)
turned_are_arcs n arcs are = All-map (IsArc n) turned_arc arcs (All-weaker (IsArc n) (λ a. IsArc n (turned_arc a)) (λ a is. (is.1, is.0, is.2)) arcs are)

-- so are the first of them
pub first_are_arcs : (n i : ℕ) (arcs kept : List Arc) → All (IsArc n) arcs → kept ≡ turned (take i arcs) → All (IsArc n) kept
first_are_arcs n i arcs kept are is = rw is (turned_are_arcs n (take i arcs) (All-take (IsArc n) i arcs are))

-- a list and the same turned round are, in another order, each arc and behind it the same turned round
pub with_turned_same : (arcs : List Arc) → IsPermutation (arcs ++ turned arcs) (with_turned arcs)
with_turned_same [] = IsPermutation-refl []
with_turned_same (a ∷ arcs) =
    let behind : IsPermutation (turned_arc a ∷ (arcs ++ turned arcs)) (turned_arc a ∷ with_turned arcs) = IsPermutation-cons (turned_arc a) (arcs ++ turned arcs) (with_turned arcs) (with_turned_same arcs) in
    let moved : IsPermutation (arcs ++ turned_arc a ∷ turned arcs) (turned_arc a ∷ (arcs ++ turned arcs)) = IsPermutation-middle arcs (turned_arc a) (turned arcs) in
    IsPermutation-cons a (arcs ++ turned_arc a ∷ turned arcs) (turned_arc a ∷ with_turned arcs) (IsPermutation-trans _ _ _ moved behind)

-- they are twice as many
pub with_turned_length : (arcs : List Arc) → length (with_turned arcs) ≡ 2 * length arcs
with_turned_length [] = refl
with_turned_length (a ∷ arcs) = omega (arith, with_turned_length arcs)

-- and arcs of the same graph
pub with_turned_are_arcs : (n : ℕ) (arcs : List Arc) → All (IsArc n) arcs → All (IsArc n) (with_turned arcs)
with_turned_are_arcs n arcs are = All-permutation (IsArc n) (arcs ++ turned arcs) (with_turned arcs) (with_turned_same arcs) (All-append (IsArc n) arcs (turned arcs) are (turned_are_arcs n arcs are))

-- so are the first of them
pub first_with_turned : (n i : ℕ) (arcs kept : List Arc) → All (IsArc n) arcs → kept ≡ with_turned (take i arcs) → All (IsArc n) kept
first_with_turned n i arcs kept are is = rw is (with_turned_are_arcs n (take i arcs) (All-take (IsArc n) i arcs are))

-- a graph that is made of them leads both ways
pub made_both : {E : Type 0} (g : Graph) (n : ℕ) (arcs : List Arc) (made : Result Graph E) → n ≡ g.n → arcs ≡ with_turned g.arcs → IfOk made (λ h. h.n ≡ n) → IfOk made (λ h. IsPermutation arcs h.arcs)
    → IfOk made (λ h. IsBothWays g h)
made_both g n arcs (Ok h) same is as_many moved = record {
  n = sym (as_many ∙ same);
  arcs = IsPermutation-trans _ _ _ (with_turned_same g.arcs) (subst (λ all. IsPermutation all h.arcs) is moved);
}
made_both g n arcs (Err e) same is as_many moved = tt

-- one more arc, and behind it the same turned round
pub with_turned_push : (arcs : List Arc) (a : Arc) → with_turned (arcs ++ a ∷ []) ≡ (with_turned arcs ++ a ∷ []) ++ turned_arc a ∷ []
with_turned_push [] a = refl
with_turned_push (b ∷ arcs) a = ap (λ rest. b ∷ turned_arc b ∷ rest) (with_turned_push arcs a)

-- what a list has from a place on, where two arcs are put there
put_two : (n : ℕ) (xs : List Arc) (a b : Arc) → n + 1 < length xs → drop n (slice_set (slice_set xs n a) (n + 1) b) ≡ a ∷ b ∷ drop (n + 1 + 1) xs
put_two n xs a b within =
    let first : drop n (slice_set xs n a) ≡ a ∷ drop (n + 1) xs = drop-set xs n a (omega (arith, within)) in
    let next : drop (n + 1) xs ≡ slice_index_or xs (n + 1) a ∷ drop (n + 1 + 1) xs = drop_more xs (n + 1) a within in
    drop-set-add n (slice_set xs n a) 1 b ∙ rw (first, next) refl

-- with one more arc moved to its place, the first ones are still as they were
pub first_stay : (k : ℕ) (xs old : List Arc) (a b : Arc) → 0 < k → take k xs ≡ take k old → take (k - 1) (slice_set (slice_set xs (2 * (k - 1)) a) (2 * (k - 1) + 1) b) ≡ take (k - 1) old
first_stay k xs old a b some same =
    let i = k - 1 in
    let as_before : take i (slice_set (slice_set xs (2 * i) a) (2 * i + 1) b) ≡ take i xs = take-set-le i (slice_set xs (2 * i) a) (2 * i + 1) b (omega arith) ∙ take-set-le i xs (2 * i) a (omega arith) in
    as_before ∙ sym (take-take i k xs (omega arith)) ∙ ap (take i) same ∙ take-take i k old (omega arith)

-- and from its place on each stands with the same turned round behind it
pub next_moved : (k : ℕ) (xs old : List Arc) (a b : Arc) → 0 < k → k ≤ length old → length xs ≡ 2 * length old → take k xs ≡ take k old → drop (2 * k) xs ≡ with_turned (drop k old)
    → a ≡ slice_index_or xs (k - 1) a → b ≡ turned_arc a → drop (2 * (k - 1)) (slice_set (slice_set xs (2 * (k - 1)) a) (2 * (k - 1) + 1) b) ≡ with_turned (drop (k - 1) old)
next_moved k xs old a b some within size same moved is round =
    let i = k - 1 in
    let next : k ≡ i + 1 = omega (arith, some) in
    let below : i < k = omega (arith, some) in
    let here : a ≡ slice_index_or old i a = is ∙ sym (get_or-take k xs i a below) ∙ ap (λ l. slice_index_or l i a) same ∙ get_or-take k old i a below in
    let first : drop i old ≡ slice_index_or old i a ∷ drop (i + 1) old = drop_more old i a (omega (arith, within, some)) in
    let whole : drop i old ≡ a ∷ drop (i + 1) old = first ∙ ap (λ x. x ∷ drop (i + 1) old) (sym here) in
    let rest : drop (2 * k) xs ≡ with_turned (drop (i + 1) old) = subst (λ n. drop (2 * k) xs ≡ with_turned (drop n old)) next moved in
    let behind : 2 * k ≡ 2 * i + 1 + 1 = omega (arith, some) in
    let from : drop (2 * i + 1 + 1) xs ≡ with_turned (drop (i + 1) old) = subst (λ n. drop n xs ≡ with_turned (drop (i + 1) old)) behind rest in
    let put : drop (2 * i) (slice_set (slice_set xs (2 * i) a) (2 * i + 1) b) ≡ a ∷ b ∷ drop (2 * i + 1 + 1) xs = put_two (2 * i) xs a b (omega (arith, within, some, size)) in
    put ∙ ap (λ r. a ∷ b ∷ r) from ∙ ap (λ c. a ∷ c ∷ with_turned (drop (i + 1) old)) round ∙ sym (ap with_turned whole)

-- of two graphs each is the other one turned
pub turned_back : (g h : Graph) → IsTurned g h → IsTurned h g
turned_back g h is =
    let moved : IsPermutation (turned (turned g.arcs)) (turned h.arcs) = IsPermutation-map turned_arc (turned g.arcs) h.arcs is.arcs in
    let from : IsPermutation g.arcs (turned h.arcs) = rw turned_again at moved in
    record { n = sym is.n; arcs = IsPermutation-sym g.arcs (turned h.arcs) from }

-- turned twice is as before
pub turned_twice : (g h k : Graph) → IsTurned g h → IsTurned h k → HaveSameArcs g k
turned_twice g h k first second = record {
  n = first.n ∙ second.n;
  arcs = IsPermutation-trans _ _ _ (IsPermutation-sym _ _ (turned_back g h first).arcs) second.arcs;
}

-- both ways turned are both ways
turned_both : (arcs : List Arc) → IsPermutation (arcs ++ turned arcs) (turned (arcs ++ turned arcs))
turned_both arcs = rw (map-append turned_arc arcs (turned arcs), turned_again) (IsPermutation-append_comm arcs (turned arcs))

-- a graph whose arcs lead both ways is one of those that it is turned
pub both_ways_back : (g h : Graph) → IsBothWays g h → IsTurned h h
both_ways_back g h both =
    let all = g.arcs ++ turned g.arcs in
    let out : IsPermutation (turned h.arcs) (turned all) = IsPermutation-sym (turned all) (turned h.arcs) (IsPermutation-map turned_arc all h.arcs both.arcs) in
    let back : IsPermutation (turned all) all = IsPermutation-sym all (turned all) (turned_both g.arcs) in
    record { n = refl; arcs = IsPermutation-trans (turned h.arcs) all h.arcs (IsPermutation-trans (turned h.arcs) (turned all) all out back) both.arcs }

pub both_ways_turned : (g h k : Graph) → IsBothWays g h → IsTurned h k → HaveSameArcs h k
both_ways_turned g h k both is = turned_twice h h k (both_ways_back g h both) is
