-- Each step of a ring keeps what it keeps, and does to the entries what its contract says.
use Rattle.std.proofs.Common.{◌≡◌, ℕ, zero, suc, ◌+◌, ◌-◌, ◌%◌, ◌<◌, ◌≤◌, List, [], ◌∷◌, ◌++◌, length, set, length-set, get_or-set_same, refl, sym, ap, subst, ◌∙◌, arith, Vec, Some}
use Rattle.std.specs.Prelude.{◌≢◌, All, Any, IsPermutation, slice_index_or}
use Rattle.std.specs.declared.alloc.Global.{Global}
use Rattle.std.proofs.lemmas.List.Elements.{All-nil, All-cons, All-push, All-weaker, All-head}
use Rattle.std.proofs.lemmas.List.Sorted.{All-permutation}
use Rattle.sp_bins.specs.declared.entry.Entry.{Entry}
use Rattle.sp_rounds.specs.declared.ring.TheConstants.{LONGEST_RING}
use Rattle.sp_rounds.specs.Content.{bucket_of, no_entries, BucketsContent, Puts, Takes, IsLowest}
use Rattle.sp_rounds.specs.Filed.{all_entries}
use Rattle.sp_rounds.specs.Window.{Window, Stand, IsRing, IsWithin, window_of, content_of}
use Rattle.sp_rounds.proofs.EntryPlaces.{Any-head, Any-before, Any-behind, All-before, All-behind}
use Rattle.sp_rounds.proofs.Slots.{Slots, Stands, StandsElsewhere, stands_at, none_in_empty, stand_set, stand_empty, shuffled_put, shuffled_take, same_slots, same_slot}

-- what holds of all entries holds of those in one slot, and of those that are behind others
pub All-slot : (P : Entry → Type 0) (ss : Slots) (i : ℕ) (d : Vec Entry Global) → i < length ss → All P (all_entries ss) → All P (slice_index_or ss i d).items
All-slot P [] i d inside all = absurd (omega arith)
All-slot P (s ∷ ss) zero d inside all = All-before P s.items (all_entries ss) all
All-slot P (s ∷ ss) (suc i) d inside all = All-slot P ss i d (omega arith) (All-behind P s.items (all_entries ss) all)

pub Any-slot : (P : Entry → Type 0) (ss : Slots) (i : ℕ) (d : Vec Entry Global) → i < length ss → Any P (slice_index_or ss i d).items → Any P (all_entries ss)
Any-slot P [] i d inside any = absurd (omega arith)
Any-slot P (s ∷ ss) zero d inside any = Any-before P s.items (all_entries ss) any
Any-slot P (s ∷ ss) (suc i) d inside any = Any-behind P s.items (all_entries ss) (Any-slot P ss i d (omega arith) any)

module _ (delta first head : ℕ) (ss : Slots) (r : IsRing delta first head ss) where
  abbrev Within : ℕ → Entry → Type 0
  Within len x = (first ≤ bucket_of delta x) × (bucket_of delta x < first + len)

  abbrev content : Slots → BucketsContent
  content xs = content_of (window_of delta first xs)

  -- a slot is written
  ring_set : (i : ℕ) (w : Vec Entry Global) → All (Stands delta (length ss) i) w.items → All (Within (length ss)) (all_entries (set ss i w)) → IsRing delta first head (set ss i w)
  ring_set i w here within =
      let same : length ss ≡ length (set ss i w) = sym (length-set {A = Vec Entry Global} ss i w) in
      record {
        width = r.width;
        some = let more = r.some in omega arith;
        short = let more = r.short in omega arith;
        begins = r.begins ∙ ap (λ (n : ℕ). first % n) same;
        stand = subst (λ n. Stand delta n 0 (set ss i w)) same (stand_set delta (length ss) 0 i ss i w (omega arith) r.stand here);
        within = subst (λ n. All (Within n) (all_entries (set ss i w))) same within;
      }

  ring_len : (i : ℕ) (w : Vec Entry Global) → (content (set ss i w)).ring ≡ (content ss).ring
  ring_len i w = ap (λ (n : ℕ). Some n) (length-set {A = Vec Entry Global} ss i w)

  -- the slot of bucket number
  abbrev pub IsSlot : ℕ → ℕ → Type 0
  IsSlot number i = (i < length ss) × (i ≡ number % length ss)

  pub put_in : (number i : ℕ) (v w : Vec Entry Global) (x : Entry) → IsSlot number i → first ≤ number → number < first + length ss → bucket_of delta x ≡ number → v ≡ slice_index_or ss i v → w.items ≡ v.items ++ x ∷ []
      → IsRing delta first head (set ss i w) × Puts x (content ss) (content (set ss i w))
  put_in number i v w x place low high at here more =
      let inside : Within (length ss) x = (omega arith, omega arith) in
      let shuffled : IsPermutation (x ∷ all_entries ss) (all_entries (set ss i w)) = shuffled_put ss i v w x place.0 (more ∙ ap (λ (u : Vec Entry Global). u.items ++ x ∷ []) here) in
      let before : All (Stands delta (length ss) i) v.items = subst (λ (u : Vec Entry Global). All (Stands delta (length ss) i) u.items) (sym here) (stands_at delta (length ss) 0 i ss i v (omega arith) r.stand place.0) in
      let stands : Stands delta (length ss) i x = ap (λ (b : ℕ). b % length ss) at ∙ sym place.1 in
      let now : All (Stands delta (length ss) i) w.items = subst (All (Stands delta (length ss) i)) (sym more) (All-push (Stands delta (length ss) i) v.items x before stands) in
      let within : All (Within (length ss)) (all_entries (set ss i w)) = All-permutation (Within (length ss)) (x ∷ all_entries ss) (all_entries (set ss i w)) shuffled (All-cons (Within (length ss)) x (all_entries ss) inside r.within) in
      (ring_set i w now within, record { delta = refl; ring = ring_len i w; entries = shuffled })

  pub refused_in : (i : ℕ) (v w : Vec Entry Global) → i < length ss → v ≡ slice_index_or ss i v → w.items ≡ v.items
      → IsRing delta first head (set ss i w) × (window_of delta first (set ss i w) ≡ window_of delta first ss)
  refused_in i v w inside here same =
      let before : All (Stands delta (length ss) i) v.items = subst (λ (u : Vec Entry Global). All (Stands delta (length ss) i) u.items) (sym here) (stands_at delta (length ss) 0 i ss i v (omega arith) r.stand inside) in
      let now : All (Stands delta (length ss) i) w.items = subst (All (Stands delta (length ss) i)) (sym same) before in
      let entries : all_entries (set ss i w) ≡ all_entries ss = same_slots ss i v w (same ∙ ap (λ (u : Vec Entry Global). u.items) here) in
      let len : length (set ss i w) ≡ length ss = length-set {A = Vec Entry Global} ss i w in (
        ring_set i w now (subst (All (Within (length ss))) (sym entries) r.within),
        ap (λ (n : ℕ). record { delta = delta; first = first; len = n; entries = all_entries (set ss i w) }) len
            ∙ ap (λ (xs : List Entry). record { delta = delta; first = first; len = length ss; entries = xs }) entries,
      )

  -- of one slot and one window is of one bucket
  of_bucket : (number i : ℕ) → IsSlot number i → first ≤ number → number < first + length ss → (x : Entry) → Within (length ss) x → Stands delta (length ss) i x → bucket_of delta x ≡ number
  of_bucket number i place low high x within stands = same_slot first (length ss) (bucket_of delta x) number r.some within.0 within.1 low high (stands ∙ place.1)

  pub take_from : (number i : ℕ) (v w : Vec Entry Global) → IsSlot number i → first ≤ number → number < first + length ss → v ≡ slice_index_or ss i v → w.items ≡ []
      → IsRing delta first head (set ss i w) × Takes number v.items (content ss) (content (set ss i w))
  take_from number i v w place low high here empty =
      let items : (slice_index_or ss i v).items ≡ v.items = ap (λ (u : Vec Entry Global). u.items) (sym here) in
      let shuffled : IsPermutation (all_entries ss) (v.items ++ all_entries (set ss i w)) = subst (λ xs. IsPermutation (all_entries ss) (xs ++ all_entries (set ss i w))) items (shuffled_take ss i v w place.0 empty) in
      let both : All (Within (length ss)) (v.items ++ all_entries (set ss i w)) = All-permutation (Within (length ss)) (all_entries ss) (v.items ++ all_entries (set ss i w)) shuffled r.within in
      let now : All (Stands delta (length ss) i) w.items = subst (All (Stands delta (length ss) i)) (sym empty) (All-nil (Stands delta (length ss) i)) in
      let ring = ring_set i w now (All-behind (Within (length ss)) v.items (all_entries (set ss i w)) both) in
      let len : length (set ss i w) ≡ length ss = length-set {A = Vec Entry Global} ss i w in
      let written : slice_index_or (set ss i w) i w ≡ w = get_or-set_same ss i w w place.0 in
      let emptied : (slice_index_or (set ss i w) i w).items ≡ [] = ap (λ (u : Vec Entry Global). u.items) written ∙ empty in
      let stand : Stand delta (length ss) 0 (set ss i w) = stand_set delta (length ss) 0 i ss i w (omega arith) r.stand now in
      let elsewhere : All (StandsElsewhere delta (length ss) i) (all_entries (set ss i w)) = none_in_empty delta (length ss) 0 i (set ss i w) i w (omega arith) stand (omega (arith, len, place.0)) emptied in
      let apart : (x : Entry) → StandsElsewhere delta (length ss) i x → bucket_of delta x ≢ number = λ x other at. other (ap (λ (b : ℕ). b % length ss) at ∙ sym place.1) in
      let stood : All (Stands delta (length ss) i) v.items = subst (All (Stands delta (length ss) i)) items (stands_at delta (length ss) 0 i ss i v (omega arith) r.stand place.0) in
      let inside : All (Within (length ss)) v.items = All-before (Within (length ss)) v.items (all_entries (set ss i w)) both in (
        ring,
        record {
          delta = refl;
          ring = ring_len i w;
          entries = shuffled;
          taken_of_bucket = λ k d in_list. of_bucket number i place low high (slice_index_or v.items k d) (inside k d in_list) (stood k d in_list);
          left_of_others = All-weaker (StandsElsewhere delta (length ss) i) (λ (x : Entry). bucket_of delta x ≢ number) apart (all_entries (set ss i w)) elsewhere;
        },
      )

  abbrev pub NotBelow : ℕ → Entry → Type 0
  NotBelow number x = number ≤ bucket_of delta x

  -- where no entry is below a bucket and its slot is empty, none is below the next
  pub next_up : (k i : ℕ) (v : Vec Entry Global) → i < length ss → i ≡ (first + k) % length ss → v ≡ slice_index_or ss i v → v.items ≡ [] → All (NotBelow (first + k)) (all_entries ss)
      → All (NotBelow (first + (k + 1))) (all_entries ss)
  next_up k i v inside place here empty low = λ j d in_list.
      let elsewhere : All (StandsElsewhere delta (length ss) i) (all_entries ss) = none_in_empty delta (length ss) 0 i ss i v (omega arith) r.stand inside (ap (λ (u : Vec Entry Global). u.items) (sym here) ∙ empty) in
      let x : Entry = slice_index_or (all_entries ss) j d in
      let apart : bucket_of delta x ≢ first + k = λ at. elsewhere j d in_list (ap (λ (b : ℕ). b % length ss) at ∙ sym place) in
      let least : first + k ≤ bucket_of delta x = low j d in_list in
      omega (arith, apart, least)

  -- the first bucket with an entry in its slot is the lowest
  pub first_found : (k i : ℕ) (v : Vec Entry Global) (x : Entry) (rest : List Entry) → k < length ss → i < length ss → i ≡ (first + k) % length ss → v ≡ slice_index_or ss i v → v.items ≡ x ∷ rest
      → All (NotBelow (first + k)) (all_entries ss) → IsLowest (content ss) (bucket_of delta x)
  first_found k i v x rest near inside place here is low =
      let items : (slice_index_or ss i v).items ≡ x ∷ rest = ap (λ (u : Vec Entry Global). u.items) (sym here) ∙ is in
      let stands : Stands delta (length ss) i x = All-head (Stands delta (length ss) i) x rest (subst (All (Stands delta (length ss) i)) items (stands_at delta (length ss) 0 i ss i v (omega arith) r.stand inside)) in
      let within : Within (length ss) x = All-head (Within (length ss)) x rest (subst (All (Within (length ss))) items (All-slot (Within (length ss)) ss i v inside r.within)) in
      let bucket : bucket_of delta x ≡ first + k = of_bucket (first + k) i (inside, place) (omega arith) (omega arith) x within stands in
      let there : Any (λ (y : Entry). bucket_of delta y ≡ bucket_of delta x) (slice_index_or ss i v).items =
      subst (Any (λ (y : Entry). bucket_of delta y ≡ bucket_of delta x)) (sym items) (Any-head (λ (y : Entry). bucket_of delta y ≡ bucket_of delta x) x rest refl) in
      record {
        here = Any-slot (λ (y : Entry). bucket_of delta y ≡ bucket_of delta x) ss i v inside there;
        none_lower = subst (λ b. All (NotBelow b) (all_entries ss)) (sym bucket) low;
      }

  -- an empty ring
  pub all_passed : All (NotBelow (first + length ss)) (all_entries ss) → all_entries ss ≡ []
  all_passed low = none (all_entries ss) r.within low
    where
      none : (xs : List Entry) → All (Within (length ss)) xs → All (NotBelow (first + length ss)) xs → xs ≡ []
      none [] within past = refl
      none (x ∷ xs) within past = let a = All-head (Within (length ss)) x xs within in let b = All-head (NotBelow (first + length ss)) x xs past in absurd (omega (arith, a, b))

  -- the slot that `slot` tells of a bucket of the window
  pub slot_of : (w : Window) → window_of delta first ss ≡ w → (number i : ℕ) → IsWithin w number → i < w.len → i ≡ (w.first + (number - first)) % w.len
      → IsSlot number i × (first ≤ number) × (number < first + length ss)
  slot_of w is number i within below place =
      let len : length ss ≡ w.len = ap (λ (v : Window). v.len) is in
      let start : first ≡ w.first = ap (λ (v : Window). v.first) is in
      let low = within.0 in
      let high = within.1 in
      let there : w.first + (number - first) ≡ number = omega arith in
      ((omega arith, place ∙ ap (λ (n : ℕ). n % w.len) there ∙ ap (λ (n : ℕ). number % n) (sym len)), omega arith, omega arith)

  -- the slot that `slot` tells of a distance from the window's first bucket
  pub offset_slot : (w : Window) → window_of delta first ss ≡ w → (k i : ℕ) → i < w.len → i ≡ (w.first + k) % w.len → (i < length ss) × (i ≡ (first + k) % length ss)
  offset_slot w is k i below place =
      let len : length ss ≡ w.len = ap (λ (v : Window). v.len) is in
      let start : first ≡ w.first = ap (λ (v : Window). v.first) is in
      (omega arith, place ∙ ap (λ (n : ℕ). (n + k) % w.len) (sym start) ∙ ap (λ (n : ℕ). (first + k) % n) (sym len))

-- empty slots are a ring without entries
pub new_ring : (delta len : ℕ) (ss : Slots) → 0 < delta → length ss ≡ len → 0 < len → len ≤ LONGEST_RING → All (λ (s : Vec Entry Global). s.items ≡ []) ss
    → IsRing delta 0 0 ss × (content_of (window_of delta 0 ss) ≡ no_entries delta (Some len))
new_ring delta len ss width is_len some short empty =
    let none = stand_empty delta (length ss) 0 ss empty in (
      record {
        width = width;
        some = omega arith;
        short = omega arith;
        begins = let positive : 0 < length ss = omega arith in omega arith;
        stand = none.0;
        within = subst (All (λ (x : Entry). (0 ≤ bucket_of delta x) × (bucket_of delta x < 0 + length ss))) (sym none.1) (All-nil (λ (x : Entry). (0 ≤ bucket_of delta x) × (bucket_of delta x < 0 + length ss)));
      },
      ap (λ (n : ℕ). record { delta = delta; ring = Some n; entries = all_entries ss }) is_len ∙ ap (λ (xs : List Entry). record { delta = delta; ring = Some len; entries = xs }) none.1,
    )
