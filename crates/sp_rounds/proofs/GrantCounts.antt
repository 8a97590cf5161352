-- How often a grant stands in lists and in all views.
use Rattle.std.proofs.Common.{◌≡◌, ◌⊎◌, ℕ, zero, suc, ◌+◌, ◌≤◌, List, [], ◌∷◌, ◌++◌, set, refl, sym, ap, inl, inr, arith, eq-eqb, ne_eqb}
use Rattle.std.specs.Prelude.{slice_index, ◌==◌, ◌&&◌, if◌then◌else◌}
use mathlib.Core.Option.{some, some-ne-none, some-injective}
use mathlib.Core.Logic.{dite}
use native.Mathlib.Decide.{ℕ_discrete}
use lib.ListN.{get_elem?}
use Rattle.sp_rounds.specs.declared.grants.Grant.{Grant}
use Rattle.sp_rounds.specs.declared.grants.GrantView.{GrantView}
use Rattle.sp_rounds.specs.Grants.{times, times_in_all}

module _ (slot round : ℕ) where
  pub times-append : (xs ys : List Grant) → times slot round (xs ++ ys) ≡ times slot round xs + times slot round ys
  times-append [] ys = omega arith
  times-append (x ∷ xs) ys = omega (arith, times-append xs ys)

  pub all-append : (vs : List GrantView) (w : GrantView) → times_in_all slot round (vs ++ w ∷ []) ≡ times_in_all slot round vs + times slot round w.grants
  all-append [] w = omega arith
  all-append (v ∷ vs) w = omega (arith, all-append vs w)

  -- the count after a change of one view
  pub all-set : (vs : List GrantView) (id : ℕ) (v w : GrantView) → get_elem? vs id ≡ some v
      → times_in_all slot round (set vs id w) + times slot round v.grants ≡ times_in_all slot round vs + times slot round w.grants
  all-set [] id v w e = absurd (some-ne-none v (sym e))
  all-set (x ∷ xs) zero v w e = let same = ap (λ (y : GrantView). times slot round y.grants) (some-injective x v e) in omega arith
  all-set (x ∷ xs) (suc id) v w e = omega (arith, all-set xs id v w e)

  pub one_of-all : (vs : List GrantView) (id : ℕ) (v : GrantView) → get_elem? vs id ≡ some v → times slot round v.grants ≤ times_in_all slot round vs
  one_of-all [] id v e = absurd (some-ne-none v (sym e))
  one_of-all (x ∷ xs) zero v e = let same = ap (λ (y : GrantView). times slot round y.grants) (some-injective x v e) in omega arith
  one_of-all (x ∷ xs) (suc id) v e = omega (arith, one_of-all xs id v e)

  -- how often the slot and the round are those of one grant
  abbrev pub hits : ℕ → ℕ → ℕ
  hits s r = (if ((s == slot) && (r == round)) then 1 else 0)

  pub hit_or_miss : (s r : ℕ) → ((s ≡ slot) × (r ≡ round) × (hits s r ≡ 1)) ⊎ (hits s r ≡ 0)
  hit_or_miss s r =
      dite (ℕ_discrete s slot)
      (λ e. dite (ℕ_discrete r round)
      (λ f. inl (e, f, rw (eq-eqb s slot e, eq-eqb r round f)))
      (λ f. inr (rw (eq-eqb s slot e, ne_eqb r round f))))
      (λ e. inr (rw (ne_eqb s slot e)))

  pub hits_itself : hits slot round ≡ 1
  hits_itself = rw (eq-eqb slot slot refl, eq-eqb round round refl)

  pub other_slot : (s r : ℕ) → (s ≡ slot → ⊥) → hits s r ≡ 0
  other_slot s r apart = rw (ne_eqb s slot apart)

-- a word that grows leaves no word less than it was
pub grows : (ws : List ℕ) (i m k : ℕ) → slice_index ws i ≤ m → slice_index ws k ≤ slice_index (set ws i m) k
grows [] i m k h = omega arith
grows (x ∷ xs) zero m zero h = h
grows (x ∷ xs) zero m (suc k) h = omega arith
grows (x ∷ xs) (suc i) m zero h = omega arith
grows (x ∷ xs) (suc i) m (suc k) h = grows xs i m k h

-- a word that is written as it was leaves all words as they were
pub stays : (ws : List ℕ) (i m k : ℕ) → m ≡ slice_index ws i → slice_index (set ws i m) k ≡ slice_index ws k
stays [] i m k h = refl
stays (x ∷ xs) zero m zero h = h
stays (x ∷ xs) zero m (suc k) h = refl
stays (x ∷ xs) (suc i) m zero h = refl
stays (x ∷ xs) (suc i) m (suc k) h = stays xs i m k h
