-- The slots of a ring: what stands in one of them, and what a change of it leaves.
use Rattle.std.proofs.Common.{◌≡◌, ℕ, zero, suc, ◌+◌, ◌*◌, ◌/◌, ◌%◌, ◌<◌, ◌≤◌, List, [], ◌∷◌, ◌++◌, length, set, refl, sym, ap, subst, arith, lt_of_not-le, Vec}
use Rattle.std.specs.Prelude.{◌≢◌, All, IsPermutation, slice_index_or}
use Rattle.std.specs.declared.alloc.Global.{Global}
use mathlib.Core.Logic.{dite}
use native.Mathlib.Decide.{dec_le, ℕ_discrete}
use Rattle.std.proofs.Math.Nat.{mul-le-mul_left}
use Rattle.std.proofs.lemmas.Nat.{div-add-mod'}
use Rattle.std.proofs.lemmas.List.Elements.{All-nil, All-append, All-weaker}
use Rattle.sp_bins.specs.declared.entry.Entry.{Entry}
use Rattle.sp_rounds.specs.Content.{bucket_of}
use Rattle.sp_rounds.specs.Filed.{all_entries}
use Rattle.sp_rounds.specs.Window.{Stand}
use Rattle.sp_rounds.proofs.Shuffles.{one_more, one_more_behind, to_front}
use Rattle.std.proofs.lemmas.List.Sorted.{IsPermutation-refl}

abbrev pub Slots : Type 0
Slots = List (Vec Entry Global)

module _ (delta len : ℕ) where
  abbrev pub Stands : ℕ → Entry → Type 0
  Stands j x = bucket_of delta x % len ≡ j

  abbrev pub StandsElsewhere : ℕ → Entry → Type 0
  StandsElsewhere j x = bucket_of delta x % len ≢ j

  pub stands_at : (j p : ℕ) (ss : Slots) (i : ℕ) (d : Vec Entry Global) → p ≡ j + i → Stand delta len j ss → i < length ss → All (Stands p) (slice_index_or ss i d).items
  stands_at j p [] i d e stand inside = absurd (omega arith)
  stands_at j p (s ∷ ss) zero d e stand inside = let same : j ≡ p = omega arith in subst (λ q. All (Stands q) s.items) same stand.0
  stands_at j p (s ∷ ss) (suc i) d e stand inside = stands_at (suc j) p ss i d (omega arith) stand.1 (omega arith)

  -- the entries of later slots
  pub later_slots : (j p : ℕ) (ss : Slots) → p < j → Stand delta len j ss → All (StandsElsewhere p) (all_entries ss)
  later_slots j p [] below stand = All-nil (StandsElsewhere p)
  later_slots j p (s ∷ ss) below stand =
      let apart : (x : Entry) → Stands j x → StandsElsewhere p x = λ x at here. absurd (omega arith) in
      All-append (StandsElsewhere p) s.items (all_entries ss) (All-weaker (Stands j) (StandsElsewhere p) apart s.items stand.0) (later_slots (suc j) p ss (omega arith) stand.1)

  -- no entry stands in an empty slot
  pub none_in_empty : (j p : ℕ) (ss : Slots) (i : ℕ) (d : Vec Entry Global) → p ≡ j + i → Stand delta len j ss → i < length ss → (slice_index_or ss i d).items ≡ [] → All (StandsElsewhere p) (all_entries ss)
  none_in_empty j p [] i d e stand inside empty = absurd (omega arith)
  none_in_empty j p (s ∷ ss) zero d e stand inside empty = rw empty (later_slots (suc j) p ss (omega arith) stand.1)
  none_in_empty j p (s ∷ ss) (suc i) d e stand inside empty =
      let apart : (x : Entry) → Stands j x → StandsElsewhere p x = λ x at here. absurd (omega arith) in
      All-append (StandsElsewhere p) s.items (all_entries ss) (All-weaker (Stands j) (StandsElsewhere p) apart s.items stand.0)
      (none_in_empty (suc j) p ss i d (omega arith) stand.1 (omega arith) empty)

  pub stand_set : (j p : ℕ) (ss : Slots) (i : ℕ) (w : Vec Entry Global) → p ≡ j + i → Stand delta len j ss → All (Stands p) w.items → Stand delta len j (set ss i w)
  stand_set j p [] i w e stand here = tt
  stand_set j p (s ∷ ss) zero w e stand here = let same : p ≡ j = omega arith in (subst (λ q. All (Stands q) w.items) same here, stand.1)
  stand_set j p (s ∷ ss) (suc i) w e stand here = (stand.0, stand_set (suc j) p ss i w (omega arith) stand.1 here)

  -- empty slots
  pub stand_empty : (j : ℕ) (ss : Slots) → All (λ (s : Vec Entry Global). s.items ≡ []) ss → Stand delta len j ss × (all_entries ss ≡ [])
  stand_empty j [] empty = (tt, refl)
  stand_empty j (s ∷ ss) empty =
      let none : s.items ≡ [] = empty 0 s (omega arith) in
      let rest : All (λ (s : Vec Entry Global). s.items ≡ []) ss = λ k d inside. empty (suc k) d (omega arith) in
      let more = stand_empty (suc j) ss rest in
      ((rw none (All-nil (Stands j)), more.0), rw none more.1)

pub shuffled_put : (ss : Slots) (i : ℕ) (d w : Vec Entry Global) (x : Entry) → i < length ss → w.items ≡ (slice_index_or ss i d).items ++ x ∷ [] → IsPermutation (x ∷ all_entries ss) (all_entries (set ss i w))
shuffled_put [] i d w x inside more = absurd (omega arith)
shuffled_put (s ∷ ss) zero d w x inside more = rw more (one_more x s.items (all_entries ss))
shuffled_put (s ∷ ss) (suc i) d w x inside more = one_more_behind x s.items (all_entries ss) (all_entries (set ss i w)) (shuffled_put ss i d w x (omega arith) more)

pub shuffled_take : (ss : Slots) (i : ℕ) (d w : Vec Entry Global) → i < length ss → w.items ≡ [] → IsPermutation (all_entries ss) ((slice_index_or ss i d).items ++ all_entries (set ss i w))
shuffled_take [] i d w inside empty = absurd (omega arith)
shuffled_take (s ∷ ss) zero d w inside empty = rw empty (IsPermutation-refl (s.items ++ all_entries ss))
shuffled_take (s ∷ ss) (suc i) d w inside empty = to_front s.items (all_entries ss) (slice_index_or ss i d).items (all_entries (set ss i w)) (shuffled_take ss i d w (omega arith) empty)

pub same_slots : (ss : Slots) (i : ℕ) (d w : Vec Entry Global) → w.items ≡ (slice_index_or ss i d).items → all_entries (set ss i w) ≡ all_entries ss
same_slots [] i d w same = refl
same_slots (s ∷ ss) zero d w same = ap (λ (xs : List Entry). xs ++ all_entries ss) same
same_slots (s ∷ ss) (suc i) d w same = ap (λ (xs : List Entry). s.items ++ xs) (same_slots ss i d w same)

-- two numbers of one window with the same slot are the same
pub same_slot-le : (first len a b : ℕ) → 0 < len → first ≤ a → b < first + len → a ≤ b → a % len ≡ b % len → a ≡ b
same_slot-le first len a b some low high ordered same =
    let x : ℕ = a / len in
    let y : ℕ = b / len in
    let parts_a = div-add-mod' a len in
    let parts_b = div-add-mod' b len in
    dite (ℕ_discrete x y)
    (λ e. let products : x * len ≡ y * len = ap (λ (z : ℕ). z * len) e in omega arith)
    (λ apart. dite (dec_le x y)
    (λ le. let more : len * (x + 1) ≤ len * y = mul-le-mul_left len (omega arith) in absurd (omega arith))
    (λ no. let less = lt_of_not-le no in let more : len * (y + 1) ≤ len * x = mul-le-mul_left len (omega arith) in absurd (omega arith)))

pub same_slot : (first len a b : ℕ) → 0 < len → first ≤ a → a < first + len → first ≤ b → b < first + len → a % len ≡ b % len → a ≡ b
same_slot first len a b some low_a high_a low_b high_b same =
    dite (dec_le a b)
    (λ le. same_slot-le first len a b some low_a high_b le same)
    (λ no. let more = lt_of_not-le no in sym (same_slot-le first len b a some low_b high_a (omega arith) (sym same)))
