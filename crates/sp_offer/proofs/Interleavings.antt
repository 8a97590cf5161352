-- The steps of all callers go on by one.
use Rattle.std.proofs.Common.{◌≡◌, ◌≢◌, ℕ, zero, suc, ◌+◌, ◌<◌, ◌≤◌, ◌==◌, length, cond, List, [], ◌∷◌, ◌++◌, set, refl, sym, ap, ◌∙◌, subst, arith, append-nil, eq-eqb, ne_eqb, inl, inr}
use Rattle.std.proofs.lemmas.Bool.{cond-true, cond-false}
use Rattle.std.proofs.lemmas.Bool.Decides.{nat_tests}
use Rattle.std.proofs.lemmas.List.Sums.{sum_by-append, sum_by_push}
use mathlib.Core.List.{map-append}
use mathlib.Core.Logic.{dite}
use mathlib.Core.Option.{some, some-injective, some-ne-none}
use native.Mathlib.Decide.{ℕ_discrete}
use lib.ListN.{get_elem?}
use Rattle.sp_word.specs.Word.{Word}
use Rattle.sp_word.specs.History.{Event, run}
use Rattle.sp_offer.specs.Histories.{blank}
use Rattle.sp_offer.specs.Interleaving.{AskedStep, TakenStep, Doing, Rests, doing, doing_after, ended, calls_of, MayFollow, IsInterleaving, AreWithin}
use Rattle.sp_offer.specs.Trail.{Found, turns_of, IsTaken, AreTaken}
use Rattle.sp_offer.specs.Story.{times, once_below}
use Rattle.sp_offer.specs.Sight.{Sight}
use Rattle.sp_offer.specs.Rule.{doing_of}

-- ## What seats do

pub doing_there : (vs : List Sight) (id : ℕ) (v : Sight) → get_elem? vs id ≡ some v → doing_of vs id ≡ v.at
doing_there [] id v e = absurd (some-ne-none v (sym e))
doing_there (x ∷ xs) zero v e = ap (λ (y : Sight). y.at) (some-injective x v e)
doing_there (x ∷ xs) (suc i) v e = doing_there xs i v e

doing_set : (vs : List Sight) (id : ℕ) (v w : Sight) → get_elem? vs id ≡ some v → doing_of (set vs id w) id ≡ w.at
doing_set [] id v w e = absurd (some-ne-none v (sym e))
doing_set (x ∷ xs) zero v w e = refl
doing_set (x ∷ xs) (suc i) v w e = doing_set xs i v w e

doing_else : (vs : List Sight) (id j : ℕ) (w : Sight) → j ≢ id → doing_of (set vs id w) j ≡ doing_of vs j
doing_else [] id j w other = refl
doing_else (x ∷ xs) zero zero w other = absurd (other refl)
doing_else (x ∷ xs) zero (suc j) w other = refl
doing_else (x ∷ xs) (suc i) zero w other = refl
doing_else (x ∷ xs) (suc i) (suc j) w other = doing_else xs i j w (λ e. other (ap suc e))

pub doing_snoc : (vs : List Sight) (u : Sight) → u.at ≡ Rests → (j : ℕ) → doing_of (vs ++ u ∷ []) j ≡ doing_of vs j
doing_snoc [] u rest zero = rest
doing_snoc [] u rest (suc j) = refl
doing_snoc (x ∷ xs) u rest zero = refl
doing_snoc (x ∷ xs) u rest (suc j) = doing_snoc xs u rest j

-- a seat's view is changed, and all others do what they did
pub stands_set : (vs : List Sight) (id : ℕ) (v w : Sight) (before after : ℕ → Doing) → get_elem? vs id ≡ some v → ((j : ℕ) → before j ≡ doing_of vs j) → after id ≡ w.at → ((j : ℕ) → j ≢ id → after j ≡ before j)
    → (j : ℕ) → after j ≡ doing_of (set vs id w) j
stands_set vs id v w before after at stands mine others j = dite (ℕ_discrete j id)
    (λ same. subst (λ (k : ℕ). after k ≡ doing_of (set vs id w) k) (sym same) (mine ∙ sym (doing_set vs id v w at)))
    (λ other. others j other ∙ (stands j ∙ sym (doing_else vs id j w other)))

pub there_is : (vs : List Sight) (id : ℕ) (v : Sight) → get_elem? vs id ≡ some v → id < length vs
there_is [] id v e = absurd (some-ne-none v (sym e))
there_is (x ∷ xs) zero v e = omega arith
there_is (x ∷ xs) (suc i) v e = let h = there_is xs i v e in omega (arith, h)

-- ## Steps

-- more callers
pub within_more : (n callers more : ℕ) (steps : List TakenStep) → callers ≤ more → AreWithin n callers steps → AreWithin n more steps
within_more n callers more [] le h = tt
within_more n callers more (s ∷ before) le h = let one = h.2 in (h.0, h.1, omega (arith, one), within_more n callers more before le h.3)

-- the steps go on, or stay as they are: of all seats one alone may do something else, and the history has the calls that ended
pub record GoesOn (n callers : ℕ) (steps next : List TakenStep) (log : List Event) (id : ℕ) (at : Doing) (old trail : List Found) : Type 0 where
  pub interleaved : IsInterleaving next
  pub within : AreWithin n callers next
  pub calls : log ≡ calls_of next
  pub mine : doing next id ≡ at
  pub others : (j : ℕ) → j ≢ id → doing next j ≡ doing steps j
  pub told : (p : ℕ) → times p (turns_of trail) + once_below p (length steps) ≡ times p (turns_of old) + once_below p (length next)
  pub taken : AreTaken next trail
  pub older : (f : Found) → IsTaken steps f → IsTaken next f

once_more : (p n : ℕ) → once_below p (n + 1) ≡ once_below p n + cond (n == p) 1 0
once_more p n = grind (arith, nat_tests)

longer : (s : TakenStep) (steps : List TakenStep) → length (s ∷ steps) ≡ length steps + 1
longer s steps = omega arith

-- ## Trails

pub turns_append : (p : ℕ) (fs gs : List Found) → times p (turns_of (fs ++ gs)) ≡ times p (turns_of fs) + times p (turns_of gs)
turns_append p fs gs = ap (times p) (map-append (λ (f : Found). f.turn) fs gs) ∙ sum_by-append (λ (q : ℕ). cond (q == p) 1 0) (turns_of fs) (turns_of gs)

turns_more : (p : ℕ) (fs : List Found) (f : Found) → times p (turns_of (fs ++ f ∷ [])) ≡ times p (turns_of fs) + cond (f.turn == p) 1 0
turns_more p fs f = ap (times p) (map-append (λ (g : Found). g.turn) fs (f ∷ [])) ∙ sum_by_push (λ (q : ℕ). cond (q == p) 1 0) (turns_of fs) f.turn

pub taken_append : (steps : List TakenStep) (fs gs : List Found) → AreTaken steps fs → AreTaken steps gs → AreTaken steps (fs ++ gs)
taken_append steps [] gs h k = k
taken_append steps (f ∷ fs) gs h k = (h.0, taken_append steps fs gs h.1 k)

taken_more : (s : TakenStep) (steps : List TakenStep) (fs : List Found) → AreTaken steps fs → AreTaken (s ∷ steps) fs
taken_more s steps [] h = tt
taken_more s steps (f ∷ fs) h = (inr h.0, taken_more s steps fs h.1)

pub taken_older : (steps next : List TakenStep) → ((f : Found) → IsTaken steps f → IsTaken next f) → (fs : List Found) → AreTaken steps fs → AreTaken next fs
taken_older steps next older [] h = tt
taken_older steps next older (f ∷ fs) h = (older f h.0, taken_older steps next older fs h.1)

pub no_step : (n callers : ℕ) (steps : List TakenStep) (log : List Event) (id : ℕ) (at : Doing) (trail : List Found) → AreTaken steps trail → IsInterleaving steps → AreWithin n callers steps → log ≡ calls_of steps → doing steps id ≡ at → GoesOn n callers steps steps log id at trail trail
no_step n callers steps log id at trail taken is within calls here = record { interleaved = is; within = within; calls = calls; mine = here; others = λ j other. refl; told = λ p. refl; taken = taken; older = λ f h. h }

pub one_step : (n callers : ℕ) (steps : List TakenStep) (log log' : List Event) (id vertex : ℕ) (asked : AskedStep) (found : Word) (at at' : Doing) (trail : List Found) → AreTaken steps trail → 0 < vertex → vertex ≤ n → id < callers → IsInterleaving steps → AreWithin n callers steps → log ≡ calls_of steps → doing steps id ≡ at
    → run blank log vertex ≡ found → MayFollow (record { by = id; vertex = vertex; asked = asked; found = found }) asked at
    → log' ≡ log ++ ended (record { by = id; vertex = vertex; asked = asked; found = found }) asked at → doing_after (record { by = id; vertex = vertex; asked = asked; found = found }) asked at ≡ at'
    → GoesOn n callers steps (record { by = id; vertex = vertex; asked = asked; found = found } ∷ steps) log' id at' trail (trail ++ record { front = log; vertex = vertex; word = found; turn = length steps } ∷ [])
one_step n callers steps log log' id vertex asked found at at' trail taken low few one is within calls here finds may more leads =
    let s : TakenStep = record { by = id; vertex = vertex; asked = asked; found = found } in
    let f : Found = record { front = log; vertex = vertex; word = found; turn = length steps } in record {
      interleaved = (ap (λ (l : List Event). run blank l vertex) (sym calls) ∙ finds, subst (MayFollow s asked) (sym here) may, is);
      within = (low, few, one, within);
      calls = more ∙ (λ i. calls i ++ ended s asked (sym here i));
      mine = cond-true (id == id) (doing_after s asked (doing steps id)) (doing steps id) (eq-eqb id id refl) ∙ (ap (doing_after s asked) here ∙ leads);
      others = λ j other. cond-false (j == id) (doing_after s asked (doing steps j)) (doing steps j) (ne_eqb j id other);
      told = λ p. omega (arith, turns_more p trail f, once_more p (length steps), ap (once_below p) (longer s steps));
      taken = taken_append (s ∷ steps) trail (f ∷ []) (taken_more s steps trail taken) (inl (refl, refl, refl, calls), tt);
      older = λ g h. inr h;
    }
