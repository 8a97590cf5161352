-- Words of which a search has touched few.
use Rattle.std.proofs.Common.{◌≡◌, ℕ, zero, suc, ◌+◌, ◌-◌, ◌<◌, ◌≤◌, ◌⊎◌, inl, inr, List, [], ◌∷◌, length, get_or, set, replicate, refl, sym, ap, ◌∙◌, subst, arith, length-set}
use Rattle.std.specs.Prelude.{All, Contains}
use Rattle.std.proofs.lemmas.Bool.{cases_eq}
use Rattle.std.proofs.lemmas.List.{length-replicate, get_or-replicate, get_or_default}
use Rattle.std.proofs.lemmas.List.Sorted.{All-permutation, Contains-permutation}
use Rattle.std.specs.List.Sorted.{IsPermutation}
use Rattle.sp_word.specs.Word.{Word, Unreached, Pair}
use Rattle.sp_paths.specs.declared.arc.Arc.{Arc}
use Rattle.sp_paths.specs.Paths.{IsArc, IsVertex, word_at}
use Rattle.sp_judge.specs.Asked.{AreReached}
use Rattle.sp_judge.specs.Lowering.{Step, AreSteps, IsLoweredBy}
use Rattle.sp_judge.proofs.PassSteps.{word_other, word_same}
use Rattle.sp_serial.specs.TrackedWords.{AreTouched, IsAmong}

one : (a x : Arc) → Contains (a ∷ []) x → a ≡ x
one a x (zero, low, is) = is
one a x (suc k, low, is) = absurd (omega (arith, low))

-- steps of an arc leave every word but the head's
elsewhere : (max : ℕ) (arc : Arc) (v : ℕ) → 1 ≤ arc.head → 1 ≤ v → (v ≡ arc.head → ⊥) → (steps : List Step) (before after : List Word) → AreSteps max (arc ∷ []) steps before after → word_at after v ≡ word_at before v
elsewhere max arc v low at other [] before after is = ap (λ (words : List Word). word_at words v) is
elsewhere max arc v low at other (x ∷ xs) before after h =
    let same : x.0.head ≡ arc.head = ap (λ (a : Arc). a.head) (sym (one arc x.0 h.0)) in
    elsewhere max arc v low at other xs (set before (x.0.head - 1) x.1) after h.2 ∙ word_other before x.0.head v x.1 (omega (arith, low, same)) at (λ e. other (e ∙ same))

-- where the head stands in the list, an arc gives no vertex a word that doesn't
pub touched_by : (max : ℕ) (arc : Arc) (reached : List ℕ) (before after : List Word) → IsArc (length before) arc → length after ≡ length before → AreTouched 0 reached before → IsAmong 0 reached arc.head → IsLoweredBy max arc before after → AreTouched 0 reached after
touched_by max arc reached before after in' size t among by = record {
  vertices = subst (λ (n : ℕ). All (IsVertex n) reached) (sym size) t.vertices;
  covers = λ v d p at is. covers v d p (subst (λ (n : ℕ). IsVertex n v) size at) is (cases_eq v arc.head);
}
  where
    covers : (v d p : ℕ) → IsVertex (length before) v → word_at after v ≡ Pair d p → (v ≡ arc.head) ⊎ (v ≡ arc.head → ⊥) → IsAmong 0 reached v
    covers v d p at is (inl same) = subst (IsAmong 0 reached) (sym same) among
    covers v d p at is (inr other) =
        let steps = by (arc ∷ []) (0, omega arith, refl) in
        t.covers v d p at (sym (elsewhere max arc v in'.1.0 at.0 other steps.0 before after steps.1) ∙ is)

-- the list has each vertex with a word
pub all_reached : (reached : List ℕ) (words : List Word) → AreTouched 0 reached words → AreReached words reached
all_reached reached words t = record {
  vertices = t.vertices;
  covers = λ v d p at is. let (k, from, low, same) = t.covers v d p at is in (k, low, get_or_default reached k v 0 low ∙ same);
}

-- the vertex at a place is unreached again, and stands behind the place no more
pub touched_less : (i : ℕ) (reached : List ℕ) (words : List Word) → i < length reached → AreTouched i reached words → AreTouched (i + 1) reached (set words (get_or reached i 0 - 1) Unreached)
touched_less i reached words low t = record {
  vertices = subst (λ (n : ℕ). All (IsVertex n) reached) (sym size) t.vertices;
  covers = λ v d p at is. covers v d p (subst (λ (n : ℕ). IsVertex n v) size at) is (cases_eq v here);
}
  where
    here : ℕ
    here = get_or reached i 0

    in' : IsVertex (length words) here
    in' = t.vertices i 0 low

    size : length (set words (here - 1) Unreached) ≡ length words
    size = length-set words (here - 1) Unreached

    behind : (v k : ℕ) → (v ≡ here → ⊥) → i ≤ k → k < length reached → get_or reached k 0 ≡ v → (k ≡ i) ⊎ (k ≡ i → ⊥) → IsAmong (i + 1) reached v
    behind v k other from less is (inl same) = absurd (other (sym is ∙ ap (λ (j : ℕ). get_or reached j 0) same))
    behind v k other from less is (inr not) = (k, omega (arith, from, not), less, is)

    covers : (v d p : ℕ) → IsVertex (length words) v → word_at (set words (here - 1) Unreached) v ≡ Pair d p → (v ≡ here) ⊎ (v ≡ here → ⊥) → IsAmong (i + 1) reached v
    covers v d p at is (inl same) = let e : Unreached ≡ Pair d p = sym (word_same words here Unreached in'.0 in'.1) ∙ ap (λ (u : ℕ). word_at (set words (here - 1) Unreached) u) (sym same) ∙ is in cc
    covers v d p at is (inr other) =
        let (k, from, less, same) = t.covers v d p at (sym (word_other words here v Unreached in'.0 at.0 other) ∙ is) in
        behind v k other from less same (cases_eq k i)

all_unreached : (words : List Word) → ((k : ℕ) → k < length words → get_or words k Unreached ≡ Unreached) → words ≡ replicate (length words) Unreached
all_unreached [] each = refl
all_unreached (w ∷ ws) each =
    let first : w ≡ Unreached = each 0 (omega arith) in
    let rest : ws ≡ replicate (length ws) Unreached = all_unreached ws (λ k low. each (suc k) (omega (arith, low))) in
    ap (λ (x : Word). x ∷ ws) first ∙ ap (λ (xs : List Word). Unreached ∷ xs) rest

-- where none stands behind the place, all are unreached
pub touched_none : (i : ℕ) (reached : List ℕ) (words : List Word) → length reached ≤ i → AreTouched i reached words → words ≡ replicate (length words) Unreached
touched_none i reached words past t = all_unreached words (λ k low. unreached k low (get_or words k Unreached) refl)
  where
    unreached : (k : ℕ) → k < length words → (w : Word) → get_or words k Unreached ≡ w → get_or words k Unreached ≡ Unreached
    unreached k low Unreached is = is
    unreached k low (Pair d p) is =
        let (j, from, less, same) = t.covers (suc k) d p (omega arith, omega (arith, low)) (subst (λ (i : ℕ). get_or words i Unreached ≡ Pair d p) (omega arith) is) in
        absurd (omega (arith, past, from, less))

-- a vertex of the list gets a word
pub touched_set : (reached : List ℕ) (words : List Word) (s : ℕ) (w : Word) → IsVertex (length words) s → AreTouched 0 reached words → IsAmong 0 reached s → AreTouched 0 reached (set words (s - 1) w)
touched_set reached words s w in' t among = record {
  vertices = subst (λ (n : ℕ). All (IsVertex n) reached) (sym size) t.vertices;
  covers = λ v d p at is. covers v d p (subst (λ (n : ℕ). IsVertex n v) size at) is (cases_eq v s);
}
  where
    size : length (set words (s - 1) w) ≡ length words
    size = length-set words (s - 1) w

    covers : (v d p : ℕ) → IsVertex (length words) v → word_at (set words (s - 1) w) v ≡ Pair d p → (v ≡ s) ⊎ (v ≡ s → ⊥) → IsAmong 0 reached v
    covers v d p at is (inl same) = subst (IsAmong 0 reached) (sym same) among
    covers v d p at is (inr other) = t.covers v d p at (sym (word_other words s v w in'.0 at.0 other) ∙ is)

-- where all words are unreached, no vertex need be listed
pub touched_empty : (n : ℕ) (words : List Word) → words ≡ replicate n Unreached → AreTouched 0 [] words
touched_empty n words is = record { vertices = λ k d low. absurd (omega (arith, low)); covers = λ v d p at here. covers v d p at here }
  where
    covers : (v d p : ℕ) → IsVertex (length words) v → word_at words v ≡ Pair d p → IsAmong 0 [] v
    covers v d p at here =
        let low = at.0 in
        let high = at.1 in
        let size = ap (λ (ws : List Word). length ws) is ∙ length-replicate n Unreached in
        let none = ap (λ (ws : List Word). word_at ws v) is ∙ get_or-replicate n (v - 1) Unreached Unreached (omega arith) in
        let e : Unreached ≡ Pair d p = sym none ∙ here in cc

-- the order of the list has no bearing
pub touched_sorted : (reached sorted : List ℕ) (words : List Word) → IsPermutation reached sorted → AreTouched 0 reached words → AreTouched 0 sorted words
touched_sorted reached sorted words same t = record {
  vertices = All-permutation (IsVertex (length words)) reached sorted same t.vertices;
  covers = λ v d p at is.
      let (k, from, less, here) = t.covers v d p at is in
      let (j, low, there) = Contains-permutation reached sorted v same (k, less, get_or_default reached k v 0 less ∙ here) in
      (j, omega arith, low, get_or_default sorted j 0 v low ∙ there);
}
