-- What a copy of all words tells.
use Rattle.std.proofs.Common.{◌≡◌, ℕ, ◌+◌, ◌-◌, ◌<◌, ◌≤◌, zero, suc, List, [], ◌∷◌, ◌++◌, length, get_or, refl, sym, ap, ◌∙◌, subst, arith, append_assoc}
use Rattle.sp_word.specs.Word.{Word, Unreached}
use Rattle.sp_word.specs.History.{Event, Read}
use Rattle.sp_offer.specs.Order.{IsNoMore, IsKnownWord}
use Rattle.sp_offer.specs.Histories.{event}
use Rattle.sp_offer.specs.Story.{Story, Calls, known_table, Reads, reads_of, copied_word, IsCopy}
use Rattle.sp_offer.proofs.Orders.{at_most-refl, at_most-trans}
use Rattle.sp_offer.proofs.CallKnowledge.{knows}

-- one more read, at the end
pub reads_more : (law : ℕ → Word → Type 0) (by k : ℕ) (xs : List Word) (x : Word) (s m t : Story) → Reads law by k xs s m → Calls law (event by (k + length xs) (Read x)) m t → Reads law by k (xs ++ x ∷ []) s t
reads_more law by k [] x s m t same call = let at_k : k + 0 ≡ k = omega arith in
    (t, subst (λ (z : Story × ℕ). Calls law (event by z.1 (Read x)) z.0 t) (λ i. (sym same i, at_k i)) call, refl)
reads_more law by k (y ∷ ys) x s m t (u, first, rest) call = let shift : k + length (y ∷ ys) ≡ k + 1 + length ys = omega arith in
    (u, first, reads_more law by (k + 1) ys x u m t rest (subst (λ (j : ℕ). Calls law (event by j (Read x)) m t) shift call))

pub reads_of_more : (by k : ℕ) (xs : List Word) (x : Word) → reads_of by k (xs ++ x ∷ []) ≡ reads_of by k xs ++ event by (k + length xs) (Read x) ∷ []
reads_of_more by k [] x = let at_k : k ≡ k + 0 = omega arith in ap (λ (j : ℕ). event by j (Read x) ∷ []) at_k
reads_of_more by k (y ∷ ys) x = let shift : k + 1 + length ys ≡ k + length (y ∷ ys) = omega arith in
    ap (λ (es : List Event). event by k (Read y) ∷ es) (reads_of_more by (k + 1) ys x ∙ ap (λ (j : ℕ). reads_of by (k + 1) ys ++ event by j (Read x) ∷ []) shift)

module _ (law : ℕ → Word → Type 0) (by : ℕ) where
  falls : (k : ℕ) (xs : List Word) (s t : Story) → Reads law by k xs s t → (v : ℕ) → IsNoMore (known_table t v) (known_table s v)
  falls k [] s t same v = subst (λ (m : Story). IsNoMore (known_table m v) (known_table s v)) same (at_most-refl (known_table s v))
  falls k (x ∷ xs) s t (m, call, rest) v = at_most-trans (known_table t v) (known_table m v) (known_table s v) (falls (k + 1) xs m t rest v) ((knows law (event by k (Read x)) s m call).falls v)

  words : (k : ℕ) (x : Word) (xs : List Word) (s t : Story) → Reads law by k (x ∷ xs) s t → (v : ℕ) → IsKnownWord law v (known_table t v)
  words k x [] s t (m, call, same) v = subst (λ (r : Story). IsKnownWord law v (known_table r v)) same (call.words v)
  words k x (y ∷ ys) s t (m, call, rest) v = words (k + 1) y ys m t rest v

  -- the word that was read of a vertex
  abbrev Between : ℕ → Word → Story → Story → Type 0
  Between v x s t = IsKnownWord law v x × IsNoMore x (known_table s v) × IsNoMore (known_table t v) x

  between : (k : ℕ) (xs : List Word) (s t : Story) → Reads law by k xs s t → (i : ℕ) → i < length xs → Between (k + i) (get_or xs i Unreached) s t
  between k [] s t same i inside = absurd (omega arith)
  between k (x ∷ xs) s t (m, call, rest) zero inside =
      let at_k : k ≡ k + 0 = omega arith in
      let told = knows law (event by k (Read x)) s m call in
      subst (λ (v : ℕ). Between v x s t) at_k (call.lawful, told.below, subst (IsNoMore (known_table t k)) told.here (falls (k + 1) xs m t rest k))
  between k (x ∷ xs) s t (m, call, rest) (suc i) inside =
      let shift : k + 1 + i ≡ k + suc i = omega arith in
      let h = between (k + 1) xs m t rest i (omega arith) in
      let y : Word = get_or xs i Unreached in
      subst (λ (v : ℕ). Between v y s t) shift (h.0, at_most-trans y (known_table m (k + 1 + i)) (known_table s (k + 1 + i)) h.1 ((knows law (event by k (Read x)) s m call).falls (k + 1 + i)), h.2)

  at_vertex : (xs : List Word) (s t : Story) → Reads law by 1 xs s t → (v : ℕ) → 0 < v → v ≤ length xs → Between v (copied_word xs v) s t
  at_vertex xs s t reads v some low = let same : 1 + (v - 1) ≡ v = omega arith in
      subst (λ (u : ℕ). Between u (copied_word xs v) s t) same (between 1 xs s t reads (v - 1) (omega arith))

  pub copies : (xs : List Word) (s t : Story) → 0 < length xs → Reads law by 1 xs s t → IsCopy law xs s t
  copies [] s t some reads = absurd (omega arith)
  copies (x ∷ xs) s t some reads = record {
    lawful = λ v a b. (at_vertex (x ∷ xs) s t reads v a b).0;
    below = λ v a b. (at_vertex (x ∷ xs) s t reads v a b).1;
    above = λ v a b. (at_vertex (x ∷ xs) s t reads v a b).2;
    falls = falls 1 (x ∷ xs) s t reads;
    words_known = words 1 x xs s t reads;
  }

-- the caller's own calls, with one more read
pub own_more : (by caller v : ℕ) (xs : List Word) (x : Word) (old mid new : List Event) → caller ≡ by → v ≡ 1 + length xs → mid ≡ old ++ reads_of by 1 xs → new ≡ mid ++ event caller v (Read x) ∷ []
    → new ≡ old ++ reads_of by 1 (xs ++ x ∷ [])
own_more by caller v xs x old mid new same at before after = after
    ∙ (ap (λ (es : List Event). es ++ event caller v (Read x) ∷ []) before
    ∙ (append_assoc old (reads_of by 1 xs) (event caller v (Read x) ∷ [])
    ∙ ap (λ (es : List Event). old ++ es) ((λ k. reads_of by 1 xs ++ event (same k) (at k) (Read x) ∷ []) ∙ sym (reads_of_more by 1 xs x))))
