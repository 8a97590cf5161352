-- Words before any arc is relaxed: unreached, or a source's own.
use Rattle.std.proofs.Common.{◌≡◌, ℕ, ◌+◌, ◌-◌, ◌<◌, ◌≤◌, ◌⊎◌, inl, inr, List, length, replicate, get_or, set, refl, sym, ap, ◌∙◌, subst, arith, length-set}
use Rattle.std.specs.Prelude.{All, Contains}
use Rattle.std.proofs.lemmas.Bool.{cases_eq, cases_lt}
use Rattle.std.proofs.lemmas.List.{length-replicate, get_or-replicate, get_or_default}
use Rattle.sp_word.specs.Word.{Word, Unreached, Pair}
use Rattle.sp_paths.specs.Paths.{Graph, IsVertex, word_at}
use Rattle.sp_paths.specs.Forests.{IsLawful}
use Rattle.sp_judge.specs.Passing.{IsSmall}
use Rattle.sp_judge.specs.Several.{IsTableOfAny}
use Rattle.sp_judge.proofs.PassSteps.{word_other, word_same}

-- an unreached word, or a source's own
abbrev pub IsFirstWord : (sources : List ℕ) → (v : ℕ) → Word → Type 0
IsFirstWord sources v w = (w ≡ Unreached) ⊎ ((w ≡ Pair 0 0) × Contains sources v)

-- such words, in which some of the sources have their own
pub record AreOpened (n : ℕ) (sources : List ℕ) (count : ℕ) (words : List Word) : Type 0 where
  pub size : length words ≡ n
  pub each : (v : ℕ) → IsVertex n v → IsFirstWord sources v (word_at words v)
  pub own : (k d : ℕ) → k < count → word_at words (get_or sources k d) ≡ Pair 0 0

pub opened_none : (n : ℕ) (sources : List ℕ) (words : List Word) → words ≡ replicate n Unreached → AreOpened n sources 0 words
opened_none n sources words is = record {
  size = ap (λ (ws : List Word). length ws) is ∙ length-replicate n Unreached;
  each = λ v at. inl (ap (λ (ws : List Word). word_at ws v) is ∙ get_or-replicate n (v - 1) Unreached Unreached (let low = at.0 in let high = at.1 in omega arith));
  own = λ k d low. absurd (omega (arith, low));
}

pub opened_more : (n : ℕ) (sources : List ℕ) (count : ℕ) (words : List Word) → All (IsVertex n) sources → count < length sources → AreOpened n sources count words
    → AreOpened n sources (count + 1) (set words (get_or sources count 0 - 1) (Pair 0 0))
opened_more n sources count words vertices low before = record {
  size = length-set words (s - 1) (Pair 0 0) ∙ before.size;
  each = λ v h. each v h (cases_eq v s);
  own = λ k d less. own k d less (cases_lt k count);
}
  where
    s : ℕ
    s = get_or sources count 0

    at : IsVertex n s
    at = vertices count 0 low

    here : word_at (set words (s - 1) (Pair 0 0)) s ≡ Pair 0 0
    here = word_same words s (Pair 0 0) at.0 (subst (λ k. s ≤ k) (sym before.size) at.1)

    each : (v : ℕ) → IsVertex n v → (v ≡ s) ⊎ (v ≡ s → ⊥) → IsFirstWord sources v (word_at (set words (s - 1) (Pair 0 0)) v)
    each v h (inl same) = inr (ap (λ x. word_at (set words (s - 1) (Pair 0 0)) x) same ∙ here, (count, low, get_or_default sources count v 0 low ∙ sym same))
    each v h (inr other) = subst (IsFirstWord sources v) (sym (word_other words s v (Pair 0 0) at.0 h.0 other)) (before.each v h)

    stays : (x : ℕ) → IsVertex n x → word_at words x ≡ Pair 0 0 → (x ≡ s) ⊎ (x ≡ s → ⊥) → word_at (set words (s - 1) (Pair 0 0)) x ≡ Pair 0 0
    stays x h was (inl same) = ap (λ y. word_at (set words (s - 1) (Pair 0 0)) y) same ∙ here
    stays x h was (inr other) = word_other words s x (Pair 0 0) at.0 h.0 other ∙ was

    own : (k d : ℕ) → k < count + 1 → (k < count) ⊎ (count ≤ k) → word_at (set words (s - 1) (Pair 0 0)) (get_or sources k d) ≡ Pair 0 0
    own k d less (inl earlier) = stays (get_or sources k d) (vertices k d (omega arith)) (before.own k d earlier) (cases_eq (get_or sources k d) s)
    own k d less (inr last) =
        let same : k ≡ count = omega arith in
        let is : get_or sources k d ≡ s = ap (λ j. get_or sources j d) same ∙ get_or_default sources count d 0 low in
        ap (λ y. word_at (set words (s - 1) (Pair 0 0)) y) is ∙ here

-- they are of walks
pub opened_table : (g : Graph) (sources : List ℕ) (max count : ℕ) (words : List Word) → length sources ≤ count → AreOpened g.n sources count words → IsTableOfAny g sources max words
opened_table g sources max count words all opened = record {
  size = opened.size;
  small = λ k d low. small k d low;
  table = record { lawful = λ v h. lawful v (word_at words v) (opened.each v h); own = own };
}
  where
    is_small : (v : ℕ) (w : Word) → IsFirstWord sources v w → IsSmall (length words) max w
    is_small v w (inl none) = subst (IsSmall (length words) max) (sym none) tt
    is_small v w (inr first) = subst (IsSmall (length words) max) (sym first.0) (omega arith, omega arith)

    small : (k : ℕ) (d : Word) → k < length words → IsSmall (length words) max (get_or words k d)
    small k d low =
        let size = opened.size in
        let at : IsVertex g.n (k + 1) = (omega arith, omega arith) in
        let there : k + 1 - 1 ≡ k = omega arith in
        let is : word_at words (k + 1) ≡ get_or words k d = ap (λ i. get_or words i Unreached) there ∙ get_or_default words k Unreached d low in
        subst (IsSmall (length words) max) is (is_small (k + 1) (word_at words (k + 1)) (opened.each (k + 1) at))

    lawful : (v : ℕ) (w : Word) → IsFirstWord sources v w → IsLawful g sources v w
    lawful v w (inl none) = subst (IsLawful g sources v) (sym none) tt
    lawful v w (inr first) = subst (IsLawful g sources v) (sym first.0) (inl (first.1, refl, refl))

    own : (s : ℕ) → Contains sources s → word_at words s ≡ Pair 0 0
    own s (k, low, is) = ap (λ x. word_at words x) (sym is) ∙ opened.own k s (omega arith)
