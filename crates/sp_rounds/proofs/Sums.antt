-- Sums over the numbers below n, and over lists of such numbers.
use Rattle.std.proofs.Common.{◌≡◌, ◌≢◌, ℕ, zero, suc, ◌+◌, ◌*◌, ◌<◌, ◌≤◌, List, [], ◌∷◌, length, map, refl, sym, ap, ◌∙◌, arith, eq-eqb, ne_eqb, Bool, true, false}
use Rattle.std.proofs.lemmas.List.Sums.{sum_by-cons, sum_by-append}
use Rattle.std.specs.Prelude.{sum_by, flat_map, ◌==◌, if◌then◌else◌, slice_index_or}
use mathlib.Core.Logic.{dite}
use native.Mathlib.Decide.{ℕ_discrete}
use Rattle.sp_rounds.specs.Offers.{AskedOffer}
use Rattle.sp_rounds.specs.Work.{TaskOffers, offers_at, AllBelow}
use Rattle.sp_rounds.specs.Left.{tally, upto, unmarked_value, IsMarked}

pub upto-same : (g h : ℕ → ℕ) (n : ℕ) → ((k : ℕ) → k < n → g k ≡ h k) → upto g n ≡ upto h n
upto-same g h zero e = refl
upto-same g h (suc n) e = let a = upto-same g h n (λ k low. e k (omega arith)) in let b = e n (omega arith) in omega arith

pub upto-add : (g h : ℕ → ℕ) (n : ℕ) → upto (λ k. g k + h k) n ≡ upto g n + upto h n
upto-add g h zero = refl
upto-add g h (suc n) = let a = upto-add g h n in omega arith

upto-zero : (g : ℕ → ℕ) (n : ℕ) → ((k : ℕ) → g k ≡ 0) → upto g n ≡ 0
upto-zero g zero e = refl
upto-zero g (suc n) e = let a = upto-zero g n e in let b = e n in omega arith

upto-front : (g : ℕ → ℕ) (n : ℕ) → upto g (suc n) ≡ g 0 + upto (λ k. g (suc k)) n
upto-front g zero = omega arith
upto-front g (suc n) = let a = upto-front g n in omega arith

abbrev one_at : ℕ → ℕ → ℕ
one_at r k = (if (r == k) then 1 else 0)

one_here : (r k x : ℕ) → r ≡ k → one_at r k * x ≡ x
one_here r k x e = rw (eq-eqb r k e) (omega arith)

one_else : (r k x : ℕ) → r ≢ k → one_at r k * x ≡ 0
one_else r k x e = rw (ne_eqb r k e) (omega arith)

none_yet : (f : ℕ → ℕ) (r n : ℕ) → n ≤ r → upto (λ k. one_at r k * f k) n ≡ 0
none_yet f r zero h = refl
none_yet f r (suc n) h = let a = none_yet f r n (omega arith) in let b = one_else r n (f n) (λ e. absurd (omega arith)) in omega arith

one_only : (f : ℕ → ℕ) (r n : ℕ) → r < n → upto (λ k. one_at r k * f k) n ≡ f r
one_only f r zero h = absurd (omega arith)
one_only f r (suc n) h =
    dite (ℕ_discrete r n)
    (λ e. let a = none_yet f r n (omega arith) in let b = one_here r n (f n) e in let c = ap f e in omega arith)
    (λ ne. let a = one_only f r n (omega arith) in let b = one_else r n (f n) ne in omega arith)

spread : (a b x : ℕ) → (a + b) * x ≡ a * x + b * x
spread a b x = omega arith

-- a sum over a list of numbers below n, by how often each stands there
pub sum-tally : (f : ℕ → ℕ) (n : ℕ) (rs : List ℕ) → AllBelow n rs → sum_by f rs ≡ upto (λ k. tally k rs * f k) n
sum-tally f n [] h = sym (upto-zero (λ k. 0 * f k) n (λ k. omega arith))
sum-tally f n (r ∷ rs) h =
    let first = one_only f r n h.0 in
    let others = sum-tally f n rs h.1 in
    let apart = upto-same (λ k. (one_at r k + tally k rs) * f k) (λ k. one_at r k * f k + tally k rs * f k) n (λ k low. spread (one_at r k) (tally k rs) (f k)) in
    let both = upto-add (λ k. one_at r k * f k) (λ k. tally k rs * f k) n in
    let sum = sum_by-cons f r rs in
    omega arith

-- what stands in the list once and has a mark, or neither
part : (f : ℕ → ℕ) (marks : List Bool) (k t : ℕ) (b : Bool) → slice_index_or marks k false ≡ b → t ≤ 1 → (b ≡ true → 0 < t) → (b ≡ false → t ≡ 0) → t * f k + (if b then 0 else f k) ≡ f k
part f marks k t true is once in_list out = let one : t ≡ 1 = let h = in_list refl in omega arith in rw one (omega arith)
part f marks k t false is once in_list out = rw (out refl) (omega arith)

-- the numbers in the list, and those that have no mark
pub in_or_left : (f : ℕ → ℕ) (n : ℕ) (rs : List ℕ) (marks : List Bool) → ((k : ℕ) → tally k rs ≤ 1) → IsMarked n rs marks
    → upto (λ k. tally k rs * f k) n + upto (unmarked_value marks f) n ≡ upto f n
in_or_left f n rs marks once marked =
    sym (upto-add (λ k. tally k rs * f k) (unmarked_value marks f) n)
    ∙ upto-same (λ k. tally k rs * f k + unmarked_value marks f k) f n
    (λ k low. part f marks k (tally k rs) (slice_index_or marks k false) refl (once k) (marked k low).0 (marked k low).1)

-- with no mark at all, every number is left
pub all_left : (f : ℕ → ℕ) (n : ℕ) → upto (unmarked_value [] f) n ≡ upto f n
all_left f n = upto-same (unmarked_value [] f) f n (λ k low. refl)

-- what all jobs weigh
pub weight-upto : (h : AskedOffer → ℕ) (jobs : List TaskOffers) → upto (λ k. sum_by h (offers_at jobs k)) (length jobs) ≡ sum_by (λ (j : TaskOffers). sum_by h j.offers) jobs
weight-upto h [] = refl
weight-upto h (j ∷ js) =
    let a = upto-front (λ k. sum_by h (offers_at (j ∷ js) k)) (length js) in
    let b = weight-upto h js in
    let c = sum_by-cons (λ (x : TaskOffers). sum_by h x.offers) j js in
    omega arith

-- what the parts of a list weigh, they weigh together
pub sum_by-map : {A B : Type 0} (h : B → ℕ) (f : A → B) (xs : List A) → sum_by h (map f xs) ≡ sum_by (λ x. h (f x)) xs
sum_by-map h f [] = refl
sum_by-map h f (x ∷ xs) = sum_by-cons h (f x) (map f xs) ∙ (ap (λ n. h (f x) + n) (sum_by-map h f xs) ∙ sym (sum_by-cons (λ y. h (f y)) x xs))

pub sum_by-flat_map : {A B : Type 0} (h : B → ℕ) (f : A → List B) (xs : List A) → sum_by h (flat_map f xs) ≡ sum_by (λ x. sum_by h (f x)) xs
sum_by-flat_map h f [] = refl
sum_by-flat_map h f (x ∷ xs) = sum_by-append h (f x) (flat_map f xs) ∙ (ap (λ n. sum_by h (f x) + n) (sum_by-flat_map h f xs) ∙ sym (sum_by-cons (λ y. sum_by h (f y)) x xs))
