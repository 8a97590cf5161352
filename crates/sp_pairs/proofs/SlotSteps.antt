-- Answers put into the slots of pairs.
use Rattle.std.proofs.Common.{◌≡◌, ℕ, ◌+◌, ◌<◌, ◌≤◌, ◌⊎◌, inl, inr, List, [], ◌∷◌, length, set, drop, get_or, get_or-set_other, get_or-set_same, refl, ◌∙◌, subst, arith, zero, suc}
use Rattle.std.proofs.lemmas.Bool.{cases_eq}
use Rattle.std.proofs.lemmas.List.{length-set}
use Rattle.sp_paths.specs.Paths.{Graph}
use Rattle.sp_answer.specs.Run.{AreAnswersBy}
use Rattle.sp_pairs.specs.declared.asking.PairState.{PairState}
use Rattle.sp_pairs.specs.declared.asking.PairState.TheVariants.{Open, Known}
use Rattle.sp_pairs.specs.Slots.{AnswerIn, IsOpen, IsHeld, pair_at, AreAllOpen, AreHeld, IsClosedAt, AreFirstClosed, StayClosed}

-- ## One answer more

module _ {A : Type 0} (Is : AnswerIn A) (g : Graph) (pairs : List (ℕ × ℕ)) where
  held_set : (slots : List (PairState A)) (place : ℕ) (slot : PairState A) → AreHeld Is g pairs slots → IsHeld Is g (pair_at pairs place) slot → AreHeld Is g pairs (set slots place slot)
  held_set slots place slot h is = record { size = length-set slots place slot ∙ h.size; held = λ i d less. at i d (omega (arith, less, length-set slots place slot)) (cases_eq i place) }
    where
      at : (i : ℕ) (d : PairState A) → i < length slots → (i ≡ place) ⊎ (i ≡ place → ⊥) → IsHeld Is g (pair_at pairs i) (get_or (set slots place slot) i d)
      at i d less (inl same) = let low : place < length slots = omega (arith, less, same) in rw (same, get_or-set_same slots place slot d low) is
      at i d less (inr other) = rw (get_or-set_other slots place i slot d other) (h.held i d less)

  -- The answer for the target of a pair is the pair's.
  pub kept : (s t : ℕ) (slots : List (PairState A)) (place : ℕ) (answer : A) → AreHeld Is g pairs slots → (pair_at pairs place).0 ≡ s → (pair_at pairs place).1 ≡ t → Is g s t answer → AreHeld Is g pairs (set slots place (Known answer))
  kept s t slots place answer h source target is = held_set slots place (Known answer) h (rw (source, target) is)

  held_open : (pair : ℕ × ℕ) (slot : PairState A) → IsOpen slot → IsHeld Is g pair slot
  held_open pair (Open next) is = tt
  held_open pair (Known answer) is = absurd is

  -- Of open slots nothing is held.
  pub open_held : (slots : List (PairState A)) → AreAllOpen pairs slots → AreHeld Is g pairs slots
  open_held slots h = record { size = h.size; held = λ i d less. held_open (pair_at pairs i) (get_or slots i d) (h.each i d less) }

module _ {A : Type 0} where
  -- The slot at a place into which an answer was put is closed.
  pub closed_set : (slots : List (PairState A)) (place : ℕ) (answer : A) → place < length slots → IsClosedAt place (set slots place (Known answer))
  closed_set slots place answer low d = rw (get_or-set_same slots place (Known answer) d low) tt

  -- ## The answers of a run

  pub none_stay : (slots : List (PairState A)) → StayClosed slots slots
  none_stay slots = record { size = refl; stay = λ i less closed. closed }

  pub stay_both : (first second third : List (PairState A)) → StayClosed first second → StayClosed second third → StayClosed first third
  stay_both first second third h k = record { size = k.size ∙ h.size; stay = λ i less closed. k.stay i (omega (arith, less, h.size)) (h.stay i less closed) }

  -- Those before the place were closed, and so is the one there.
  pub first_more : (place : ℕ) (old new : List (PairState A)) → AreFirstClosed place old → StayClosed old new → IsClosedAt place new → AreFirstClosed (place + 1) new
  first_more place old new first h there i less low = at (cases_eq i place)
    where
      at : (i ≡ place) ⊎ (i ≡ place → ⊥) → IsClosedAt i new
      at (inl same) = rw same there
      at (inr other) = h.stay i (omega (arith, low, h.size)) (first i (omega (arith, less, other)) (omega (arith, low, h.size)))

  -- Behind the answer for the target at place `k`, the pair that was asked for is closed.
  pub closed_next : (pairs : List (ℕ × ℕ)) (s t k at place : ℕ) (mid new : List (PairState A)) → place < length mid → StayClosed mid new → ((pair_at pairs at).0 ≡ s → (pair_at pairs at).1 ≡ t → IsClosedAt at new)
      → (k ≡ 0 → (at ≡ place) × ((pair_at pairs place).0 ≡ s) × ((pair_at pairs place).1 ≡ t)) → (0 < k → IsClosedAt place mid) → IsClosedAt place new
  closed_next pairs s t zero at place mid new low stay closed same before =
      let (e, source, target) = same refl in
      let here : IsClosedAt at new = closed (rw e source) (rw e target) in
      subst (λ (x : ℕ). IsClosedAt x new) e here
  closed_next pairs s t (suc k) at place mid new low stay closed same before = stay.stay place low (before (omega arith))

-- ## The answers that are left

module _ {A : Type 0} (Is : ℕ → A → Type 0) where
  next_suc : (targets : List ℕ) (k : ℕ) (answer : A) (later : List A) → AreAnswersBy Is (drop k targets) (answer ∷ later) → (k < length targets) × Is (get_or targets k 0) answer × AreAnswersBy Is (drop (suc k) targets) later
  next_suc [] zero answer later are = absurd are
  next_suc [] (suc k) answer later are = absurd are
  next_suc (t ∷ targets) zero answer later are = (omega arith, are.0, are.1)
  next_suc (t ∷ targets) (suc k) answer later are = let (low, is, more) = next_suc targets k answer later are in (omega (arith, low), is, more)

  -- the next answer is that for the next target
  pub next_answer : (targets : List ℕ) (k : ℕ) (all : List A) (answer : A) (later : List A) → all ≡ answer ∷ later → AreAnswersBy Is (drop k targets) all → (k < length targets) × Is (get_or targets k 0) answer × AreAnswersBy Is (drop (k + 1) targets) later
  next_answer targets k all answer later is are =
      let (low, first, more) = next_suc targets k answer later (subst (AreAnswersBy Is (drop k targets)) is are) in
      let next : suc k ≡ k + 1 = omega arith in
      (low, first, subst (λ (n : ℕ). AreAnswersBy Is (drop n targets) later) next more)

  none_suc : (targets : List ℕ) (k : ℕ) → AreAnswersBy Is (drop k targets) [] → length targets ≤ k
  none_suc [] k are = omega arith
  none_suc (t ∷ targets) zero are = absurd are
  none_suc (t ∷ targets) (suc k) are = omega (arith, none_suc targets k are)

  -- where no answer is left, no target is
  pub none_left : (targets : List ℕ) (k : ℕ) (all : List A) → length all ≡ 0 → AreAnswersBy Is (drop k targets) all → length targets ≤ k
  none_left targets k [] none are = none_suc targets k are
  none_left targets k (answer ∷ later) none are = absurd (omega (arith, none))
