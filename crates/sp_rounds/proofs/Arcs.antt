-- The offers along the arcs of a row, arc by arc.
use Rattle.std.proofs.Common.{◌≡◌, ℕ, ◌+◌, ◌<◌, ◌≤◌, List, [], ◌∷◌, ◌++◌, map, refl, sym, ap, ◌∙◌, subst, arith, Bool, true, false, ◌-◌, length, take, get_or, vec_len, vec_capacity, Vec, Global}
use Rattle.atomic_table.specs.Seated.{TableId}
use Rattle.std.specs.Prelude.{filter, nat_le, if◌then◌else◌}
use Rattle.std.proofs.lemmas.Bool.Decides.{nat_tests}
use Rattle.sp_word.specs.Word.{Word}
use Rattle.sp_paths.specs.declared.arc.Arc.{Arc}
use Rattle.sp_offer.specs.Story.{Knowledge}
use Rattle.sp_bins.specs.declared.entry.Entry.{Entry}
use Rattle.sp_graph.specs.RowsValue.{Split}
use Rattle.sp_rounds.specs.declared.task.Task.{Task}
use Rattle.sp_rounds.specs.Offers.{AskedOffer, arcs_of, offer_along, offers_along}
use Rattle.sp_rounds.specs.Work.{MadeOffers, jobs_of, offers_at}
use Rattle.sp_rounds.proofs.WorkerSteps.{offers_at-is}
use Rattle.sp_rounds.proofs.CallsInRow.{map-append, offers_more}

filter-append : {A : Type 0} (p : A → Bool) (xs ys : List A) → filter p (xs ++ ys) ≡ filter p xs ++ filter p ys
filter-append p [] ys = refl
filter-append p (x ∷ xs) ys =
    elim (p x) as (λ b. (if b then (x ∷ filter p (xs ++ ys)) else (filter p (xs ++ ys))) ≡ (if b then (x ∷ filter p xs) else (filter p xs)) ++ filter p ys)
    [ true ↦ ap (λ l. x ∷ l) (filter-append p xs ys) | false ↦ filter-append p xs ys ]

offers-append : (max d : ℕ) (xs ys : List Arc) → offers_along max d (xs ++ ys) ≡ offers_along max d xs ++ offers_along max d ys
offers-append max d xs ys =
    ap (map (offer_along d)) (filter-append (λ (a : Arc). nat_le (d + a.len) max) xs ys)
    ∙ map-append (offer_along d) (filter (λ (a : Arc). nat_le (d + a.len) max) xs) (filter (λ (a : Arc). nat_le (d + a.len) max) ys)

is_within : (x max : ℕ) → x ≤ max → nat_le x max ≡ true
is_within x max h = grind (arith, nat_tests, h)

is_beyond : (x max : ℕ) → max < x → nat_le x max ≡ false
is_beyond x max h = grind (arith, nat_tests, h)

one_within : (max d : ℕ) (a : Arc) → d + a.len ≤ max → offers_along max d (a ∷ []) ≡ offer_along d a ∷ []
one_within max d a h = ap (λ (b : Bool). map (offer_along d) (if b then (a ∷ []) else [])) (is_within (d + a.len) max h)

one_beyond : (max d : ℕ) (a : Arc) → max < d + a.len → offers_along max d (a ∷ []) ≡ []
one_beyond max d a h = ap (λ (b : Bool). map (offer_along d) (if b then (a ∷ []) else [])) (is_beyond (d + a.len) max h)

-- the offers along the first k arcs were made, and there is room for the others' entries
abbrev pub Along : (ℕ → Word → Type 0) → (max d : ℕ) → TableId → List Arc → (k : ℕ) → Knowledge → List Entry → Knowledge → Vec Entry Global → Type 0
Along law max d table arcs k before bag caller found =
    (caller.table ≡ table)
    × (vec_len found + (length arcs - k) ≤ vec_capacity found)
    × MadeOffers law (offers_along max d (take k arcs)) before caller bag found.items

module _ (law : ℕ → Word → Type 0) (max d : ℕ) where
  -- one more arc, whose sum is within max
  pub along_more : (xs : List Arc) (x : Arc) (a b c : Knowledge) (f g h : List Entry) → d + x.len ≤ max
      → MadeOffers law (offers_along max d xs) a b f g → MadeOffers law (offer_along d x ∷ []) b c g h → MadeOffers law (offers_along max d (xs ++ x ∷ [])) a c f h
  along_more xs x a b c f g h within p q =
      subst (λ l. MadeOffers law l a c f h) (sym (offers-append max d xs (x ∷ []) ∙ ap (λ l. offers_along max d xs ++ l) (one_within max d x within)))
      (offers_more law (offers_along max d xs) (offer_along d x ∷ []) a b c f g h p q)

  -- one more arc, whose sum is above max
  pub along_same : (xs : List Arc) (x : Arc) (a b : Knowledge) (f g : List Entry) → max < d + x.len
      → MadeOffers law (offers_along max d xs) a b f g → MadeOffers law (offers_along max d (xs ++ x ∷ [])) a b f g
  along_same xs x a b f g beyond p =
      subst (λ l. MadeOffers law l a b f g) (sym (offers-append max d xs (x ∷ []) ∙ (ap (λ l. offers_along max d xs ++ l) (one_beyond max d x beyond) ∙ append-none (offers_along max d xs)))) p
    where
      append-none : {A : Type 0} (ys : List A) → ys ++ [] ≡ ys
      append-none [] = refl
      append-none (y ∷ ys) = ap (λ l. y ∷ l) (append-none ys)

-- the offers of a task, as those of its job
pub task_made : (law : ℕ → Word → Type 0) (max : ℕ) (rows : Split) (tasks : List Task) (k : ℕ) (t : Task) (arcs : List Arc) (a b : Knowledge) (f f' g : List Entry) → k < length tasks
    → arcs ≡ arcs_of rows (get_or tasks k t) → f' ≡ f → MadeOffers law (offers_along max (get_or tasks k t).dist arcs) a b f' g → MadeOffers law (offers_at (jobs_of max rows tasks) k) a b f g
task_made law max rows tasks k t arcs a b f f' g low row same made =
    subst (λ (xs : List AskedOffer). MadeOffers law xs a b f g) (ap (offers_along max (get_or tasks k t).dist) row ∙ sym (offers_at-is max rows tasks k t low))
    (subst (λ (bag : List Entry). MadeOffers law (offers_along max (get_or tasks k t).dist arcs) a b bag g) same made)
