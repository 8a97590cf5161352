-- The first words, as they come.
use Rattle.std.proofs.Common.{◌≡◌, ℕ, zero, suc, ◌+◌, ◌*◌, ◌<◌, ◌≤◌, ◌^◌, ◌⊎◌, Bool, true, false, List, [], ◌∷◌, ◌++◌, length, get_or, take, drop, refl, sym, ap, subst, ⊎_elim, ◌∙◌, arith, Option}
use Rattle.std.specs.Io.KnownBytes.{Consumes}
use Rattle.std.proofs.lemmas.Bool.{cases_lt}
use Rattle.std.proofs.lemmas.List.{append-nil, ext_get_or, get_or-take, get_or_append_left, length-take-le, take_all, take-append-drop}
use Rattle.sp_packed.specs.declared.word_sums.Sum.{Sum}
use Rattle.sp_packed.specs.declared.faults.PackedKind.{PackedKind}
use Rattle.sp_packed.specs.declared.faults.PackedKind.TheVariants.{TooFew, Read}
use Rattle.sp_packed.specs.Words.{words, sum_on, no_sum, sum_words, HasCome}
use Rattle.sp_packed.specs.Packed.{head_words, arcs_words, content}
use Rattle.sp_packed.specs.Ends.{AreFirstEnds}
use Rattle.sp_packed.specs.Parts.{BegunGraph}
use Rattle.sp_packed.specs.Faults.{IsPlace, IsWordKind}
use Rattle.sp_packed.specs.Reading.{front_words, AreCounts, IsFrontWord, HasFront, Told}
use Rattle.sp_packed.proofs.Beginning.{begun_front, ends_begun, parts_shape}
use Rattle.sp_packed.proofs.Telling.{told_other, told_cut}

pub length-front : (n m : ℕ) → length (front_words n m) ≡ 5
unfolding head_words
length-front n m = refl

pub take_same : (k : ℕ) (xs ys : List ℕ) → k ≤ length xs → k ≤ length ys → ((i : ℕ) → i < k → get_or xs i 0 ≡ get_or ys i 0) → take k xs ≡ take k ys
take_same k xs ys lx ly h =
    ext_get_or 0 (take k xs) (take k ys) (length-take-le k xs lx ∙ sym (length-take-le k ys ly))
    (λ i lt. let less : i < k = omega (arith, lt, length-take-le k xs lx) in get_or-take k xs i 0 less ∙ h i less ∙ sym (get_or-take k ys i 0 less))

-- the 0 of row 0 is the first of the ends
pub first_end : (n m : ℕ) → 1 ≤ n → AreFirstEnds n m (0 ∷ [])
first_end n m some = record {
  few = omega arith;
  rising = record { begin = refl; rise = λ k ge lt. absurd (omega arith) };
  last = λ full. absurd (omega arith);
}

pub front_begun : (top most n m : ℕ) → AreCounts top most n m → BegunGraph top most (front_words n m)
front_begun top most n m counts = ends_begun top most n m counts (0 ∷ []) (omega arith) (first_end n m counts.some)

module _ (top most : ℕ) (some : 1 ≤ top) (numbers : List ℕ) (fits : (i : ℕ) → get_or numbers i 0 < 2 ^ 32) (k : ℕ) (few : k ≤ 5) (long : k ≤ length numbers)
    (right : (i : ℕ) → i < k → IsFrontWord top most i (get_or numbers i 0)) where
  front_each : (n m : ℕ) → (2 < k → get_or numbers 2 0 ≡ n) → (3 < k → get_or numbers 3 0 ≡ m) → (i : ℕ) → i < k → get_or numbers i 0 ≡ get_or (front_words n m) i 0
  unfolding head_words
  front_each n m hn hm zero lt = right 0 lt
  front_each n m hn hm (suc zero) lt = right 1 lt
  front_each n m hn hm (suc (suc zero)) lt = hn lt
  front_each n m hn hm (suc (suc (suc zero))) lt = hm lt
  front_each n m hn hm (suc (suc (suc (suc zero)))) lt = right 4 lt
  front_each n m hn hm (suc (suc (suc (suc (suc i))))) lt = absurd (omega (arith, few, lt))

  pub front_taken : (n m : ℕ) → (2 < k → get_or numbers 2 0 ≡ n) → (3 < k → get_or numbers 3 0 ≡ m) → take k numbers ≡ take k (front_words n m)
  front_taken n m hn hm = take_same k numbers (front_words n m) long (omega (arith, length-front n m, few)) (front_each n m hn hm)

  -- Some counts have these words before them.
  pub some_front : (n : ℕ) × (m : ℕ) × AreCounts top most n m × (take k numbers ≡ take k (front_words n m))
  some_front = ⊎_elim with_n (λ le. none le) (cases_lt 2 k)
    where
      none : k ≤ 2 → (n : ℕ) × (m : ℕ) × AreCounts top most n m × (take k numbers ≡ take k (front_words n m))
      none le = (
        1,
        0,
        record { some = omega arith; n_fits = omega arith; n_within = some; m_fits = omega arith; m_within = omega arith },
        front_taken 1 0 (λ lt. absurd (omega arith)) (λ lt. absurd (omega arith)),
      )

      with_n : 2 < k → (n : ℕ) × (m : ℕ) × AreCounts top most n m × (take k numbers ≡ take k (front_words n m))
      with_n lt =
          let n = get_or numbers 2 0 in
          let is : (1 ≤ n) × (n ≤ top) = right 2 lt in
          ⊎_elim
          (λ more.
          let m = get_or numbers 3 0 in
          let at : m ≤ most = right 3 more in
          (n, m, record { some = is.0; n_fits = fits 2; n_within = is.1; m_fits = fits 3; m_within = at }, front_taken n m (λ l. refl) (λ l. refl)))
          (λ le.
          (n, 0, record { some = is.0; n_fits = fits 2; n_within = is.1; m_fits = omega arith; m_within = omega arith }, front_taken n 0 (λ l. refl) (λ l. absurd (omega arith))))
          (cases_lt 3 k)

  pub right_begun : BegunGraph top most (take k numbers)
  right_begun =
      let s = some_front in
      let front = front_words s.0 s.1 in
      subst (BegunGraph top most) (sym s.3)
      (begun_front top most (take k front) (drop k front) (subst (BegunGraph top most) (sym (take-append-drop k front)) (front_begun top most s.0 s.1 s.2)))

  -- the next word of a text that begins so
  pub front_only : k < 5 → k < length numbers → BegunGraph top most (take (k + 1) numbers) → IsFrontWord top most k (get_or numbers k 0)
  unfolding head_words
  front_only five more b = go k five at
    where
      rest : List ℕ
      rest = arcs_words b.arcs ++ sum_words (sum_on no_sum (content b.n b.ends b.arcs))

      at : get_or (head_words b.n (length b.arcs) ++ (b.ends ++ (arcs_words b.arcs ++ sum_words (sum_on no_sum (content b.n b.ends b.arcs))))) k 0 ≡ get_or numbers k 0
      at =
          sym (ap (λ l. get_or l k 0) (parts_shape b.n b.ends b.arcs)) ∙ ap (λ l. get_or l k 0) b.is
          ∙ get_or_append_left (take (k + 1) numbers) b.more 0 k (omega (arith, length-take-le (k + 1) numbers (omega arith)))
          ∙ get_or-take (k + 1) numbers k 0 (omega arith)

      begin : get_or (b.ends ++ (arcs_words b.arcs ++ sum_words (sum_on no_sum (content b.n b.ends b.arcs)))) 0 0 ≡ 0
      begin = get_or_append_left b.ends (arcs_words b.arcs ++ sum_words (sum_on no_sum (content b.n b.ends b.arcs))) 0 0 (omega (arith, b.parts.ends_are.size)) ∙ b.parts.ends_are.rising.begin

      go : (j : ℕ) → j < 5 → get_or (head_words b.n (length b.arcs) ++ (b.ends ++ (arcs_words b.arcs ++ sum_words (sum_on no_sum (content b.n b.ends b.arcs))))) j 0 ≡ get_or numbers j 0
          → IsFrontWord top most j (get_or numbers j 0)
      go zero lt e = sym e
      go (suc zero) lt e = sym e
      go (suc (suc zero)) lt e = (omega (arith, e, b.parts.some), omega (arith, e, b.parts.n_within))
      go (suc (suc (suc zero))) lt e = omega (arith, e, b.parts.within)
      go (suc (suc (suc (suc zero)))) lt e = sym e ∙ begin
      go (suc (suc (suc (suc (suc i))))) lt e = absurd (omega arith)

module _ (top most : ℕ) (some : 1 ≤ top) (old new : Option (List ℕ)) (has_failed failed : Bool) (numbers : List ℕ) (fits : (i : ℕ) → get_or numbers i 0 < 2 ^ 32)
    (come : HasCome 5 old numbers failed new) (k : ℕ) (long : k ≤ length numbers)
    (right : (i : ℕ) → i < k → IsFrontWord top most i (get_or numbers i 0)) where
  pub front_wrong : (kind : PackedKind) → k < length numbers → (IsFrontWord top most k (get_or numbers k 0) → ⊥) → IsWordKind kind → ((n m : ℕ) → IsPlace kind n m k)
      → Told top most old new has_failed (record { at = 4 * k; kind = kind })
  front_wrong kind lt wrong word place =
      let five : k < 5 = omega (arith, lt, come.within) in
      let b = right_begun top most some numbers fits k (omega arith) long right in
      told_other top most old new has_failed numbers come.part come.took k kind (take k numbers) (take (k + 1) numbers) word fits lt refl refl b
      (λ next. wrong (front_only top most some numbers fits k (omega arith) long right five lt next)) (place b.n (length b.arcs))

  pub front_cut : (kind : PackedKind) → k ≡ length numbers → k < 5 → (failed ≡ false → kind ≡ TooFew) → (failed ≡ true → kind ≡ Read) → (failed ≡ true → has_failed ≡ true)
      → Told top most old new has_failed (record { at = 4 * k; kind = kind })
  front_cut kind all five few read broken =
      let b = subst (BegunGraph top most) (take_all k numbers (omega arith)) (right_begun top most some numbers fits k (omega arith) long right) in
      told_cut top most old new has_failed numbers come.part come.took k kind failed few read (sym all) come.short b (omega arith)
      (λ is_false. come.ended (omega arith) is_false) broken

  pub front_came : (s t : Sum) → k ≡ 5 → t ≡ sum_on s numbers → HasFront top most old new s t (get_or numbers 2 0) (get_or numbers 3 0)
  front_came s t five sum =
      let size : length numbers ≡ 5 = omega (arith, five, long, come.within) in
      let n = get_or numbers 2 0 in
      let m = get_or numbers 3 0 in
      let is : (1 ≤ n) × (n ≤ top) = right 2 (omega arith) in
      let at : m ≤ most = right 3 (omega arith) in
      let same : numbers ≡ front_words n m
      = sym (take_all k numbers (omega arith)) ∙ front_taken top most some numbers fits k (omega arith) long right n m (λ l. refl) (λ l. refl)
      ∙ take_all k (front_words n m) (omega (arith, length-front n m, five)) in
      let none : come.part ≡ [] = come.full (omega arith) in
      record {
        counts = record { some = is.0; n_fits = fits 2; n_within = is.1; m_fits = fits 3; m_within = at };
        took = subst (λ l. Consumes old new l) (ap (λ l. words numbers ++ l) none ∙ append-nil (words numbers) ∙ ap words same) come.took;
        sum = sum ∙ ap (sum_on s) same;
      }
