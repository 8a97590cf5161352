-- A ring of buckets, and a map of buckets beside it: what a change of one of them does to both.
use Rattle.std.proofs.Common.{◌≡◌, ℕ, ◌≤◌, min, length, List, [], ◌∷◌, ◌++◌, true, false, Vec, vec_len, eqb-true, refl, sym, ap, subst, ◌∙◌, arith, append_assoc}
use mathlib.Core.Logic.{dite}
use native.Mathlib.Decide.{dec_le}
use Rattle.std.specs.Prelude.{◌==◌, ◌≢◌, All, Any, IsPermutation, slice_index_or, Result, Ok, Err, OnOk, OnErr}
use Rattle.std.specs.declared.alloc.Global.{Global}
use Rattle.std.specs.declared.alloc.AllocError.{AllocError}
use Rattle.std.proofs.lemmas.Bool.{eqb-false}
use Rattle.std.proofs.lemmas.List.Elements.{All-cons, All-append, All-weaker, All-head}
use Rattle.std.proofs.lemmas.List.Sorted.{IsPermutation-trans, IsPermutation-append_left, All-permutation}
use Rattle.sp_bins.specs.declared.entry.Entry.{Entry}
use Rattle.sp_rounds.specs.Content.{bucket_of, BucketsContent, Puts, Takes, IsLowest}
use Rattle.sp_rounds.specs.Beside.{both, AreApart}
use Rattle.sp_rounds.proofs.Shuffles.{one_more_behind, to_front}
use Rattle.sp_rounds.proofs.EntryPlaces.{Any-before, Any-behind, All-behind, empty_is}

abbrev pub IsOf : ℕ → ℕ → Entry → Type 0
IsOf delta i e = bucket_of delta e ≡ i

abbrev pub IsOfAnother : ℕ → ℕ → Entry → Type 0
IsOfAnother delta i e = bucket_of delta e ≢ i

abbrev pub NotBelow : ℕ → ℕ → Entry → Type 0
NotBelow delta i e = i ≤ bucket_of delta e

-- no entry of these has the bucket of e
abbrev pub IsAlone : ℕ → List Entry → Entry → Type 0
IsAlone delta fs e = All (λ (f : Entry). bucket_of delta e ≢ bucket_of delta f) fs

module _ (ring map : BucketsContent) (is : AreApart ring map) where
  -- the ring's entries of another bucket, by the width of the map
  of_another : (i : ℕ) (es : List Entry) → All (IsOfAnother ring.delta i) es → All (IsOfAnother map.delta i) es
  of_another i es all = subst (λ (n : ℕ). All (IsOfAnother n i) es) is.width all

  -- where the map holds a bucket, the ring has no entry of it
  pub free_where_held : (i : ℕ) → Any (IsOf map.delta i) map.entries → All (IsOfAnother ring.delta i) ring.entries
  free_where_held i held = λ k d inside at.
      let here : slice_index_or map.entries held.0 held.1 ≡ held.1 = held.3 in
      let e : Entry = slice_index_or ring.entries k d in
      let here_too : bucket_of map.delta e ≡ i = subst (λ (n : ℕ). bucket_of n e ≡ i) is.width at in
      is.apart k d inside held.0 held.1 held.2 (here_too ∙ sym held.4 ∙ ap (bucket_of map.delta) (sym here))

  -- an entry comes into the ring, or nothing changes
  pub put_in_ring : (r : Result (Unit {0}) AllocError) (x : Entry) (i : ℕ) (new : BucketsContent) → i ≡ bucket_of map.delta x → All (IsOfAnother map.delta i) map.entries
      → OnOk r (Puts x ring new) → OnErr r (new ≡ ring) → AreApart new map × OnOk r (Puts x (both ring map) (both new map))
  put_in_ring (Err e) x i new at free put refused = (subst (λ (s : BucketsContent). AreApart s map) (sym refused) is, tt)
  put_in_ring (Ok done) x i new at free put refused =
      let alone : IsAlone map.delta map.entries x = λ k d inside same. free k d inside (sym (at ∙ same)) in (
        record {
          width = put.delta ∙ is.width;
          apart = All-permutation (IsAlone map.delta map.entries) (x ∷ ring.entries) new.entries put.entries
              (All-cons (IsAlone map.delta map.entries) x ring.entries alone is.apart);
        },
        record { delta = refl; ring = put.ring; entries = IsPermutation-append_left map.entries (x ∷ ring.entries) new.entries put.entries },
      )

  -- an entry comes into the map, or nothing changes
  pub put_in_map : (r : Result (Unit {0}) AllocError) (x : Entry) (i : ℕ) (new : BucketsContent) → i ≡ bucket_of map.delta x → All (IsOfAnother ring.delta i) ring.entries
      → OnOk r (Puts x map new) → OnErr r (new ≡ map) → AreApart ring new × OnOk r (Puts x (both ring map) (both ring new))
  put_in_map (Err e) x i new at free put refused = (subst (AreApart ring) (sym refused) is, tt)
  put_in_map (Ok done) x i new at free put refused =
      let away : All (IsOfAnother map.delta i) ring.entries = of_another i ring.entries free in
      let alone : All (IsAlone map.delta new.entries) ring.entries = λ k d inside.
      let e : Entry = slice_index_or ring.entries k d in
      let Apart : Entry → Type 0 = λ (f : Entry). bucket_of map.delta e ≢ bucket_of map.delta f in
      let other : Apart x = λ same. away k d inside (same ∙ sym at) in
      All-permutation Apart (x ∷ map.entries) new.entries put.entries (All-cons Apart x map.entries other (is.apart k d inside)) in (
        record { width = is.width ∙ sym put.delta; apart = subst (λ (n : ℕ). All (IsAlone n new.entries) ring.entries) (sym put.delta) alone },
        record { delta = put.delta; ring = refl; entries = one_more_behind x ring.entries map.entries new.entries put.entries },
      )

  -- a bucket is taken out of the ring
  pub take_from_ring : (i : ℕ) (taken : List Entry) (new : BucketsContent) → taken ≢ [] → Takes i taken ring new
      → AreApart new map × Takes i taken (both ring map) (both new map)
  take_from_ring i [] new some took = absurd (some refl)
  take_from_ring i (x ∷ rest) new some took =
      let taken : List Entry = x ∷ rest in
      let Alone : Entry → Type 0 = IsAlone map.delta map.entries in
      let all : All Alone (taken ++ new.entries) = All-permutation Alone ring.entries (taken ++ new.entries) took.entries is.apart in
      let of_bucket : All (IsOf map.delta i) taken = subst (λ (n : ℕ). All (IsOf n i) taken) is.width took.taken_of_bucket in
      let here : bucket_of map.delta x ≡ i = All-head (IsOf map.delta i) x rest of_bucket in
      let alone : Alone x = All-head Alone x (rest ++ new.entries) all in
      let away : All (IsOfAnother map.delta i) map.entries = λ k d inside at. alone k d inside (here ∙ sym at) in
      let shuffled : IsPermutation (ring.entries ++ map.entries) ((taken ++ new.entries) ++ map.entries) =
      IsPermutation-append_left map.entries ring.entries (taken ++ new.entries) took.entries in (
        record { width = took.delta ∙ is.width; apart = All-behind Alone taken new.entries all },
        record {
          delta = refl;
          ring = took.ring;
          entries = subst (IsPermutation (ring.entries ++ map.entries)) (append_assoc taken new.entries map.entries) shuffled;
          taken_of_bucket = of_bucket;
          left_of_others = All-append (IsOfAnother map.delta i) new.entries map.entries (of_another i new.entries took.left_of_others) away;
        },
      )

  -- a bucket is taken out of the map, where the ring has nothing of it
  pub take_from_map : (i : ℕ) (taken : List Entry) (later new : BucketsContent) → Takes i [] ring later → Takes i taken map new
      → AreApart later new × Takes i taken (both ring map) (both later new)
  take_from_map i taken later new emptied took =
      let alone : All (IsAlone map.delta map.entries) later.entries =
      All-permutation (IsAlone map.delta map.entries) ring.entries later.entries emptied.entries is.apart in
      let alone_new : All (IsAlone map.delta new.entries) later.entries = λ k d inside.
      let e : Entry = slice_index_or later.entries k d in
      let Apart : Entry → Type 0 = λ (f : Entry). bucket_of map.delta e ≢ bucket_of map.delta f in
      All-behind Apart taken new.entries (All-permutation Apart map.entries (taken ++ new.entries) took.entries (alone k d inside)) in
      let first : IsPermutation (ring.entries ++ map.entries) (later.entries ++ map.entries) =
      IsPermutation-append_left map.entries ring.entries later.entries emptied.entries in
      let second : IsPermutation (later.entries ++ map.entries) (taken ++ (later.entries ++ new.entries)) =
      to_front later.entries map.entries taken new.entries took.entries in (
        record {
          width = emptied.delta ∙ is.width ∙ sym took.delta;
          apart = subst (λ (n : ℕ). All (IsAlone n new.entries) later.entries) (sym took.delta) alone_new;
        },
        record {
          delta = took.delta;
          ring = emptied.ring;
          entries = IsPermutation-trans (ring.entries ++ map.entries) (later.entries ++ map.entries) (taken ++ (later.entries ++ new.entries)) first second;
          taken_of_bucket = took.taken_of_bucket;
          left_of_others = All-append (IsOfAnother map.delta i) later.entries new.entries (of_another i later.entries emptied.left_of_others) took.left_of_others;
        },
      )

  -- a bucket of the ring's that is no higher than the map's is the lowest
  pub lowest_in_ring : (i : ℕ) → IsLowest ring i → All (NotBelow map.delta i) map.entries → IsLowest (both ring map) i
  lowest_in_ring i low others =
      let low_too : IsLowest (record { delta = map.delta; ring = ring.ring; entries = ring.entries }) i =
      subst (λ (n : ℕ). IsLowest (record { delta = n; ring = ring.ring; entries = ring.entries }) i) is.width low in
      record {
        here = Any-before (IsOf map.delta i) ring.entries map.entries low_too.here;
        none_lower = All-append (NotBelow map.delta i) ring.entries map.entries low_too.none_lower others;
      }

  -- and one of the map's that is no higher than the ring's
  pub lowest_in_map : (i : ℕ) → IsLowest map i → All (NotBelow ring.delta i) ring.entries → IsLowest (both ring map) i
  lowest_in_map i low others =
      record {
        here = Any-behind (IsOf map.delta i) ring.entries map.entries low.here;
        none_lower = All-append (NotBelow map.delta i) ring.entries map.entries (subst (λ (n : ℕ). All (NotBelow n i) ring.entries) is.width others) low.none_lower;
      }

  not_below : (n : ℕ) (i j : ℕ) (es : List Entry) → i ≤ j → All (NotBelow n j) es → All (NotBelow n i) es
  not_below n i j es le = All-weaker (NotBelow n j) (NotBelow n i) (λ e low. omega arith) es

  -- the lower of the two lowest buckets is the lowest
  pub lowest_of_both : (a b i : ℕ) (all : BucketsContent) → both ring map ≡ all → IsLowest ring a → IsLowest map b → i ≡ min a b → IsLowest all i
  lowest_of_both a b i all view low_a low_b least =
      subst (λ (s : BucketsContent). IsLowest s i) view (dite (dec_le a b)
      (λ le.
      let same : a ≡ i = omega arith in
      subst (IsLowest (both ring map)) same (lowest_in_ring a low_a (not_below map.delta a b map.entries le low_b.none_lower)))
      (λ no.
      let same : b ≡ i = omega arith in
      subst (IsLowest (both ring map)) same (lowest_in_map b low_b (not_below ring.delta b a ring.entries (omega arith) low_a.none_lower))))

-- what `is_empty` tells
pub empty_is_none : (v : Vec Entry Global) → (vec_len v == 0) ≡ true → v.items ≡ []
empty_is_none v empty = let len : vec_len v ≡ 0 = eqb-true (vec_len v) 0 empty in empty_is (λ (_ : Entry). Unit {0}) v.items (omega arith)

pub full_is_some : (v : Vec Entry Global) → (vec_len v == 0) ≡ false → v.items ≢ []
full_is_some v full none = let len : length v.items ≡ 0 = ap (λ (xs : List Entry). length xs) none in eqb-false (vec_len v) 0 full (omega arith)

pub on_err_by : (r : Result (Unit {0}) AllocError) {P Q : Type 0} → (P → Q) → OnErr r P → OnErr r Q
on_err_by (Ok done) f refused = tt
on_err_by (Err e) f refused = f refused
