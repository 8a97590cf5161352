-- A map whose keys are the buckets of their entries: what a look-up tells, and what a change leaves.
use Rattle.std.proofs.Common.{◌≡◌, ℕ, ◌≤◌, List, [], ◌∷◌, ◌++◌, Bool, true, false, true≢false, refl, sym, ap, subst, ◌∙◌, arith, None, Some, Vec}
use Rattle.std.specs.Prelude.{◌≢◌, All, Any, IsPermutation, Option, is_some}
use Rattle.std.specs.declared.alloc.Global.{Global}
use Rattle.std.specs.declared.cmp.Ordering.{Ordering}
use Rattle.std.specs.declared.cmp.Ordering.TheVariants.{Less, Equal, Greater}
use Rattle.std.specs.Ordering.{nat_cmp, match_ordering, is_eq}
use Rattle.std.specs.Map.{lookup, set_value, remove_entry, values_of, keys_of}
use Rattle.std.specs.BTreeMap.{insert_entry, is_at}
use Rattle.std.specs.BTreeMap.Range.{IsLeBy}
use mathlib.Core.Bool.{cond}
use Rattle.std.proofs.lemmas.Map.Lookups.{exact_unsigned}
use Rattle.std.proofs.lemmas.List.Elements.{All-nil, All-cons, All-push, All-append, All-weaker, All-head, All-tail}
use Rattle.std.proofs.lemmas.List.Sorted.{IsPermutation-refl}
use Rattle.sp_bins.specs.declared.entry.Entry.{Entry}
use Rattle.sp_rounds.specs.Content.{bucket_of, BucketsContent, Puts, Takes, IsLowest}
use Rattle.sp_rounds.specs.Filed.{all_entries, IsBucket, IsFiled}
use Rattle.sp_rounds.proofs.Shuffles.{one_more, one_more_behind, to_front}
use Rattle.sp_rounds.proofs.EntryPlaces.{Any-before, Any-behind, Any-first}

abbrev pub Files : Type 0
Files = List (ℕ × Vec Entry Global)

abbrev pub filed : Files → List Entry
filed es = all_entries (values_of es)

module _ (k : ℕ) where
  abbrev pub test : ℕ → Bool
  test = is_at (nat_cmp k)

  pub exact : (q : ℕ) → test q ≡ true → k ≡ q
  exact q t = by (nat_cmp k q) refl t
    where
      by : (r : Ordering) → nat_cmp k q ≡ r → is_eq r ≡ true → k ≡ q
      by Less e h = absurd (true≢false (sym h))
      by Equal e h = exact_unsigned k q e
      by Greater e h = absurd (true≢false (sym h))

  pub found_itself : test k ≡ true
  found_itself = grind arith

  module _ (delta : ℕ) where
    abbrev pub IsOf : Entry → Type 0
    IsOf x = bucket_of delta x ≡ k

    abbrev pub IsOfAnother : Entry → Type 0
    IsOfAnother x = bucket_of delta x ≢ k

    abbrev pub IsNotBelow : Entry → Type 0
    IsNotBelow x = k ≤ bucket_of delta x

    pub bucket_at : (es : Files) (v : Vec Entry Global) → IsFiled delta es → lookup test es ≡ Some v → IsBucket delta k v
    bucket_at [] v f h = absurd (true≢false (sym (ap is_some h)))
    bucket_at (e ∷ es) v f h = by (test e.0) refl h (bucket_at es v f.1)
      where
        by : (b : Bool) → test e.0 ≡ b → cond b (Some e.1) (lookup test es) ≡ Some v → (lookup test es ≡ Some v → IsBucket delta k v) → IsBucket delta k v
        by true t g later = subst (IsBucket delta k) (cc) (subst (λ q. IsBucket delta q e.1) (sym (exact e.0 t)) f.0)
        by false t g later = later g

    pub filed_set : (es : Files) (w : Vec Entry Global) → IsFiled delta es → IsBucket delta k w → IsFiled delta (set_value test es w)
    filed_set [] w f b = tt
    filed_set (e ∷ es) w f b = by (test e.0) refl (filed_set es w f.1 b)
      where
        by : (t : Bool) → test e.0 ≡ t → IsFiled delta (set_value test es w) → IsFiled delta (cond t ((e.0, w) ∷ es) (e ∷ set_value test es w))
        by true t later = (subst (λ q. IsBucket delta q w) (exact e.0 t) b, f.1)
        by false t later = (f.0, later)

    pub filed_insert : (es : Files) (w : Vec Entry Global) → IsFiled delta es → IsBucket delta k w → IsFiled delta (insert_entry nat_cmp es k w)
    filed_insert [] w f b = (b, tt)
    filed_insert (e ∷ es) w f b = by (nat_cmp k e.0) refl (filed_insert es w f.1 b)
      where
        by : (r : Ordering) → nat_cmp k e.0 ≡ r → IsFiled delta (insert_entry nat_cmp es k w) → IsFiled delta (match_ordering r ((k, w) ∷ e ∷ es) ((e.0, w) ∷ es) (e ∷ insert_entry nat_cmp es k w))
        by Less p later = (b, f)
        by Equal p later = (subst (λ q. IsBucket delta q w) (exact_unsigned k e.0 p) b, f.1)
        by Greater p later = (f.0, later)

    pub filed_remove : (es : Files) → IsFiled delta es → IsFiled delta (remove_entry test es)
    filed_remove [] f = tt
    filed_remove (e ∷ es) f = by (test e.0) (filed_remove es f.1)
      where
        by : (t : Bool) → IsFiled delta (remove_entry test es) → IsFiled delta (cond t es (e ∷ remove_entry test es))
        by true later = f.1
        by false later = (f.0, later)

    -- no entry of the bucket stands where its key isn't found
    pub none_there : (es : Files) → IsFiled delta es → lookup test es ≡ None → All IsOfAnother (filed es)
    none_there [] f h = All-nil IsOfAnother
    none_there (e ∷ es) f h = by (test e.0) refl h (none_there es f.1)
      where
        by : (b : Bool) → test e.0 ≡ b → cond b (Some e.1) (lookup test es) ≡ None → (lookup test es ≡ None → All IsOfAnother (filed es)) → All IsOfAnother (filed (e ∷ es))
        by true t g later = absurd (true≢false (ap is_some g))
        by false t g later =
            let apart : (x : Entry) → bucket_of delta x ≡ e.0 → bucket_of delta x ≢ k = λ x at here. true≢false (sym found_itself ∙ ap test (sym here ∙ at) ∙ t) in
            All-append IsOfAnother e.1.items (filed es) (All-weaker (λ (x : Entry). bucket_of delta x ≡ e.0) IsOfAnother apart e.1.items f.0.same) (later g)

    -- an entry of the bucket stands where its key is found
    pub one_there : (es : Files) (v : Vec Entry Global) → IsFiled delta es → lookup test es ≡ Some v → Any IsOf (filed es)
    one_there [] v f h = absurd (true≢false (sym (ap is_some h)))
    one_there (e ∷ es) v f h = by (test e.0) refl h (one_there es v f.1)
      where
        by : (b : Bool) → test e.0 ≡ b → cond b (Some e.1) (lookup test es) ≡ Some v → (lookup test es ≡ Some v → Any IsOf (filed es)) → Any IsOf (filed (e ∷ es))
        by true t g later = Any-before IsOf e.1.items (filed es) (Any-first IsOf e.1.items f.0.some (λ x rest is. All-head IsOf x rest (subst (All IsOf) is (subst (λ q. All (λ (y : Entry). bucket_of delta y ≡ q) e.1.items) (sym (exact e.0 t)) f.0.same))))
        by false t g later = Any-behind IsOf e.1.items (filed es) (later g)

    -- keys that aren't below k have no entry below it
    pub none_below : (es : Files) → IsFiled delta es → All (IsLeBy nat_cmp k) (keys_of es) → All IsNotBelow (filed es)
    none_below [] f above = All-nil IsNotBelow
    none_below (e ∷ es) f above =
        let le : k ≤ e.0 = not_greater e.0 (All-head (IsLeBy nat_cmp k) e.0 (keys_of es) above) in
        let at_least : (x : Entry) → bucket_of delta x ≡ e.0 → k ≤ bucket_of delta x = λ x at. omega arith in
        All-append IsNotBelow e.1.items (filed es) (All-weaker (λ (x : Entry). bucket_of delta x ≡ e.0) IsNotBelow at_least e.1.items f.0.same) (none_below es f.1 (All-tail (IsLeBy nat_cmp k) e.0 (keys_of es) above))
      where
        not_greater : (q : ℕ) → IsLeBy nat_cmp k q → k ≤ q
        not_greater q h = grind arith

  pub shuffled_set : (es : Files) (v w : Vec Entry Global) (x : Entry) → lookup test es ≡ Some v → w.items ≡ v.items ++ x ∷ [] → IsPermutation (x ∷ filed es) (filed (set_value test es w))
  shuffled_set [] v w x h more = absurd (true≢false (sym (ap is_some h)))
  shuffled_set (e ∷ es) v w x h more = by (test e.0) h (shuffled_set es v w x)
    where
      by : (b : Bool) → cond b (Some e.1) (lookup test es) ≡ Some v → (lookup test es ≡ Some v → w.items ≡ v.items ++ x ∷ [] → IsPermutation (x ∷ filed es) (filed (set_value test es w)))
          → IsPermutation (x ∷ filed (e ∷ es)) (filed (cond b ((e.0, w) ∷ es) (e ∷ set_value test es w)))
      by true g later =
          let same : e.1 ≡ v = cc in
          let items : w.items ≡ e.1.items ++ x ∷ [] = cc in
          rw items (one_more x e.1.items (filed es))
      by false g later = one_more_behind x e.1.items (filed es) (filed (set_value test es w)) (later g more)

  pub same_set : (es : Files) (v w : Vec Entry Global) → lookup test es ≡ Some v → w.items ≡ v.items → filed (set_value test es w) ≡ filed es
  same_set [] v w h same = refl
  same_set (e ∷ es) v w h same = by (test e.0) h (λ g. same_set es v w g same)
    where
      by : (b : Bool) → cond b (Some e.1) (lookup test es) ≡ Some v → (lookup test es ≡ Some v → filed (set_value test es w) ≡ filed es) → filed (cond b ((e.0, w) ∷ es) (e ∷ set_value test es w)) ≡ filed (e ∷ es)
      by true g later =
          let here : e.1 ≡ v = cc in
          let items : w.items ≡ e.1.items = cc in
          ap (λ (xs : List Entry). xs ++ filed es) items
      by false g later = ap (λ (xs : List Entry). e.1.items ++ xs) (later g)

  pub shuffled_insert : (es : Files) (w : Vec Entry Global) (x : Entry) → lookup test es ≡ None → w.items ≡ x ∷ [] → IsPermutation (x ∷ filed es) (filed (insert_entry nat_cmp es k w))
  shuffled_insert [] w x h one = rw one (IsPermutation-refl (x ∷ []))
  shuffled_insert (e ∷ es) w x h one = by (nat_cmp k e.0) h (λ g. shuffled_insert es w x g one)
    where
      by : (r : Ordering) → cond (is_eq r) (Some e.1) (lookup test es) ≡ None
          → (lookup test es ≡ None → IsPermutation (x ∷ filed es) (filed (insert_entry nat_cmp es k w)))
          → IsPermutation (x ∷ filed (e ∷ es)) (filed (match_ordering r ((k, w) ∷ e ∷ es) ((e.0, w) ∷ es) (e ∷ insert_entry nat_cmp es k w)))
      by Less g later = rw one (IsPermutation-refl (x ∷ filed (e ∷ es)))
      by Equal g later = absurd (true≢false (ap is_some g))
      by Greater g later = one_more_behind x e.1.items (filed es) (filed (insert_entry nat_cmp es k w)) (later g)

  pub shuffled_remove : (es : Files) (v : Vec Entry Global) → lookup test es ≡ Some v → IsPermutation (filed es) (v.items ++ filed (remove_entry test es))
  shuffled_remove [] v h = absurd (true≢false (sym (ap is_some h)))
  shuffled_remove (e ∷ es) v h = by (test e.0) h (shuffled_remove es v)
    where
      by : (b : Bool) → cond b (Some e.1) (lookup test es) ≡ Some v → (lookup test es ≡ Some v → IsPermutation (filed es) (v.items ++ filed (remove_entry test es))) → IsPermutation (filed (e ∷ es)) (v.items ++ filed (cond b es (e ∷ remove_entry test es)))
      by true g later =
          let here : v ≡ e.1 = cc in
          rw here (IsPermutation-refl (filed (e ∷ es)))
      by false g later = to_front e.1.items (filed es) v.items (filed (remove_entry test es)) (later g)

-- what contracts see of a map
abbrev pub content_of : ℕ → Files → BucketsContent
content_of delta es = record { delta = delta; ring = None; entries = filed es }

module _ (k delta : ℕ) (es fs : Files) (f : IsFiled delta es) where
  -- the bucket that stands there has one entry more
  pub put_there : (v w : Vec Entry Global) (x : Entry) → lookup (test k) es ≡ Some v → w.items ≡ v.items ++ x ∷ [] → bucket_of delta x ≡ k → fs ≡ set_value (test k) es w
      → IsFiled delta fs × Puts x (content_of delta es) (content_of delta fs)
  put_there v w x found more at changed =
      let was = bucket_at k delta es v f found in
      let bucket : IsBucket delta k w = record {
        some = λ none. append_some v.items (sym more ∙ none);
        same = subst (All (IsOf k delta)) (sym more) (All-push (IsOf k delta) v.items x was.same at);
      } in
      let shuffled : IsPermutation (x ∷ filed es) (filed fs) = rw changed (shuffled_set k es v w x found more) in
      (subst (IsFiled delta) (sym changed) (filed_set k delta es w f bucket), record { delta = refl; ring = refl; entries = shuffled })
    where
      append_some : (xs : List Entry) → xs ++ x ∷ [] ≡ [] → ⊥
      append_some [] e = cc
      append_some (y ∷ ys) e = cc

  -- the bucket that stands there has the entries that it had
  pub refused_there : (v w : Vec Entry Global) → lookup (test k) es ≡ Some v → w.items ≡ v.items → fs ≡ set_value (test k) es w
      → IsFiled delta fs × (content_of delta fs ≡ content_of delta es)
  refused_there v w found same changed =
      let was = bucket_at k delta es v f found in
      let bucket : IsBucket delta k w = record { some = λ none. was.some (sym same ∙ none); same = subst (All (IsOf k delta)) (sym same) was.same } in (
        subst (IsFiled delta) (sym changed) (filed_set k delta es w f bucket),
        ap (λ (xs : Files). content_of delta xs) changed ∙ ap (λ (xs : List Entry). record { delta = delta; ring = None; entries = xs }) (same_set k es v w found same),
      )

  -- a new bucket has one entry
  pub put_first : (w : Vec Entry Global) (x : Entry) → lookup (test k) es ≡ None → w.items ≡ x ∷ [] → bucket_of delta x ≡ k → fs ≡ insert_entry nat_cmp es k w
      → IsFiled delta fs × Puts x (content_of delta es) (content_of delta fs)
  put_first w x missing one at changed =
      let bucket : IsBucket delta k w = record {
        some = λ none. let e : x ∷ [] ≡ [] = sym one ∙ none in cc;
        same = subst (All (IsOf k delta)) (sym one) (All-cons (IsOf k delta) x [] at (All-nil (IsOf k delta)));
      } in
      let shuffled : IsPermutation (x ∷ filed es) (filed fs) = rw changed (shuffled_insert k es w x missing one) in
      (subst (IsFiled delta) (sym changed) (filed_insert k delta es w f bucket), record { delta = refl; ring = refl; entries = shuffled })

  -- the bucket that stands there is taken out
  pub taken_there : (v : Vec Entry Global) → lookup (test k) es ≡ Some v → fs ≡ remove_entry (test k) es → lookup (test k) fs ≡ None
      → IsFiled delta fs × Takes k v.items (content_of delta es) (content_of delta fs)
  taken_there v found changed gone =
      let filed_after : IsFiled delta fs = subst (IsFiled delta) (sym changed) (filed_remove k delta es f) in
      let shuffled : IsPermutation (filed es) (v.items ++ filed fs) = rw changed (shuffled_remove k es v found) in (
        filed_after,
        record {
          delta = refl;
          ring = refl;
          entries = shuffled;
          taken_of_bucket = (bucket_at k delta es v f found).same;
          left_of_others = none_there k delta fs filed_after gone;
        },
      )

  -- no bucket stands there
  pub none_taken : lookup (test k) es ≡ None → fs ≡ es → IsFiled delta fs × Takes k [] (content_of delta es) (content_of delta fs)
  none_taken missing same =
      let filed_after : IsFiled delta fs = subst (IsFiled delta) (sym same) f in
      let shuffled : IsPermutation (filed es) ([] ++ filed fs) = rw same (IsPermutation-refl (filed es)) in (
        filed_after,
        record {
          delta = refl;
          ring = refl;
          entries = shuffled;
          taken_of_bucket = All-nil (IsOf k delta);
          left_of_others = none_there k delta fs filed_after (ap (lookup (test k)) same ∙ missing);
        },
      )

module _ (k delta : ℕ) (es : Files) (f : IsFiled delta es) where
  -- the first key is that of the lowest bucket
  pub lowest_there : (v : Vec Entry Global) → lookup (test k) es ≡ Some v → All (IsLeBy nat_cmp k) (keys_of es) → IsLowest (content_of delta es) k
  lowest_there v found first = record { here = one_there k delta es v f found; none_lower = none_below k delta es f first }

  pub held : is_some (lookup (test k) es) ≡ true → Any (IsOf k delta) (filed es)
  held = by (lookup (test k) es) refl
    where
      by : (o : Option (Vec Entry Global)) → lookup (test k) es ≡ o → is_some o ≡ true → Any (IsOf k delta) (filed es)
      by None e h = absurd (true≢false (sym h))
      by (Some v) e h = one_there k delta es v f e

  pub free : is_some (lookup (test k) es) ≡ false → All (IsOfAnother k delta) (filed es)
  free = by (lookup (test k) es) refl
    where
      by : (o : Option (Vec Entry Global)) → lookup (test k) es ≡ o → is_some o ≡ false → All (IsOfAnother k delta) (filed es)
      by None e h = none_there k delta es f e
      by (Some v) e h = absurd (true≢false h)
