-- The ends of rows, as they come.
use Rattle.std.proofs.Common.{◌≡◌, ℕ, ◌+◌, ◌-◌, ◌*◌, ◌<◌, ◌≤◌, ◌^◌, Bool, true, false, List, [], ◌∷◌, ◌++◌, length, get_or, take, refl, sym, ap, subst, ⊎_elim, ◌∙◌, arith, append_assoc, length-append, Option}
use Rattle.std.specs.Io.KnownBytes.{Consumes}
use Rattle.std.proofs.KnownBytes.{Consumes-trans, Consumes-nil}
use Rattle.std.proofs.Math.Seq.{take-append-add}
use Rattle.std.proofs.lemmas.Bool.{cases_lt}
use Rattle.std.proofs.lemmas.List.{append-nil, get_or_append_left, get_or_push, length-take-le, take_all, take_more}
use Rattle.sp_packed.specs.declared.word_sums.Sum.{Sum}
use Rattle.sp_packed.specs.declared.faults.PackedKind.{PackedKind}
use Rattle.sp_packed.specs.declared.faults.PackedKind.TheVariants.{OutOfRange, TooFew, Memory, Read}
use Rattle.sp_packed.specs.declared.faults.PackedField.TheVariants.{End}
use Rattle.sp_packed.specs.Words.{words, sum_on, HasCome}
use Rattle.sp_packed.specs.Packed.{head_words}
use Rattle.sp_packed.specs.Ends.{IsRise, AreRising, AreFirstEnds, HasEnds}
use Rattle.sp_packed.specs.Parts.{BegunGraph}
use Rattle.sp_packed.specs.Reading.{front_words, Told, ToldBehind}
use Rattle.sp_packed.proofs.Spelling.{words-append, sum_on-append, fit_both}
use Rattle.sp_packed.proofs.Beginning.{begun_take, ends_begun, ends_only, n_told}
use Rattle.sp_packed.proofs.Graphs.{head_fits, ends_fit}
use Rattle.sp_packed.proofs.FrontSteps.{length-front, front_begun}
use Rattle.sp_packed.proofs.Telling.{told_other, told_memory, told_cut, took_on}

-- none is there yet but the 0
pub ends_first : (old : Option (List ℕ)) (s : Sum) → HasEnds old old s s (0 ∷ [])
unfolding sum_on
ends_first old s = record { came = []; is = refl; took = Consumes-nil old; sum = refl }

pub ends_more : (old mid new : Option (List ℕ)) (s t u : Sum) (ends ns : List ℕ) (want : ℕ) (failed : Bool) → HasEnds old mid s t ends
    → HasCome want mid ns failed new → want ≤ length ns → u ≡ sum_on t ns → HasEnds old new s u (ends ++ ns)
ends_more old mid new s t u ends ns want failed h come ge sum =
    let none : words ns ++ come.part ≡ words ns = ap (λ l. words ns ++ l) (come.full ge) ∙ append-nil (words ns) in
    record {
      came = h.came ++ ns;
      is = ap (λ l. l ++ ns) h.is;
      took = subst (λ l. Consumes old new l) (sym (words-append h.came ns))
          (Consumes-trans old mid new (words h.came) (words ns) h.took (subst (λ l. Consumes mid new l) none come.took));
      sum = sum ∙ ap (λ v. sum_on v ns) h.sum ∙ sym (sum_on-append s h.came ns);
    }

-- no memory for the 0
pub told_first : (n m : ℕ) (old : Option (List ℕ)) (has_failed : Bool) → ToldBehind (front_words n m) n m old old has_failed (record { at = 16; kind = Memory })
told_first n m old has_failed top most start counts first =
    let front = front_words n m in
    told_memory top most start old has_failed front [] (subst (λ l. Consumes start old l) (sym (append-nil (words front))) first) 4 front
    (omega (arith, length-front n m)) (take_all 5 front (omega (arith, length-front n m))) (front_begun top most n m counts)

-- ## One end more

-- the first of ends are so too
pub first_front : (n m : ℕ) (ends ns : List ℕ) (k : ℕ) → AreFirstEnds n m ends → AreRising m (ends ++ take k ns) → length ends + length (take k ns) ≤ n → AreFirstEnds n m (ends ++ take k ns)
first_front n m ends ns k h rising le = record {
  few = omega (arith, length-append ends (take k ns), le);
  rising = rising;
  last = λ full. absurd (omega (arith, length-append ends (take k ns), le, full));
}

pub rising_push : (m : ℕ) (ends : List ℕ) (x : ℕ) → AreRising m ends → 1 ≤ length ends → get_or ends (length ends - 1) 0 ≤ x → x ≤ m → AreRising m (ends ++ x ∷ [])
rising_push m ends x h some low high = record { begin = get_or_append_left ends (x ∷ []) 0 0 some ∙ h.begin; rise = rise }
  where
    rise : (k : ℕ) → 1 ≤ k → k < length (ends ++ x ∷ []) → IsRise m (ends ++ x ∷ []) k
    rise k ge lt = ⊎_elim inside (λ out. last (omega (arith, out, length-append ends (x ∷ []), lt))) (cases_lt k (length ends))
      where
        inside : k < length ends → IsRise m (ends ++ x ∷ []) k
        inside less =
            let right = h.rise k ge less in
            let here = get_or_append_left ends (x ∷ []) 0 k less in
            let before = get_or_append_left ends (x ∷ []) 0 (k - 1) (omega (arith, less)) in
            (omega (arith, right.0, here, before), omega (arith, right.1, here))

        last : length ends ≡ k → IsRise m (ends ++ x ∷ []) k
        last is =
            let here = get_or_push ends x 0 k is in
            let before = get_or_append_left ends (x ∷ []) 0 (k - 1) (omega (arith, is, ge)) in
            let at = ap (λ i. get_or ends (i - 1) 0) is in
            (omega (arith, here, before, low, at), omega (arith, here, high))

pub rising_last : (m : ℕ) (ends : List ℕ) (x : ℕ) → AreRising m (ends ++ x ∷ []) → 1 ≤ length ends → (get_or ends (length ends - 1) 0 ≤ x) × (x ≤ m)
rising_last m ends x h some =
    let k = length ends in
    let right = h.rise k some (omega (arith, length-append ends (x ∷ []))) in
    let here = get_or_push ends x 0 k refl in
    let before = get_or_append_left ends (x ∷ []) 0 (k - 1) (omega (arith, some)) in
    (omega (arith, right.0, here, before), omega (arith, right.1, here))

pub rising_front : (m : ℕ) (ends : List ℕ) (x : ℕ) → AreRising m (ends ++ x ∷ []) → 1 ≤ length ends → AreRising m ends
rising_front m ends x h some = record {
  begin = sym (get_or_append_left ends (x ∷ []) 0 0 some) ∙ h.begin;
  rise = λ k ge lt.
      let right = h.rise k ge (omega (arith, length-append ends (x ∷ []), lt)) in
      let here = get_or_append_left ends (x ∷ []) 0 k lt in
      let before = get_or_append_left ends (x ∷ []) 0 (k - 1) (omega (arith, lt)) in
      (omega (arith, right.0, here, before), omega (arith, right.1, here));
}

-- the list with the next of the numbers
pub push_next : (ends ns : List ℕ) (k : ℕ) → k < length ns → ends ++ take (k + 1) ns ≡ (ends ++ take k ns) ++ get_or ns k 0 ∷ []
push_next ends ns k lt = ap (λ l. ends ++ l) (take_more ns k 0 lt) ∙ sym (append_assoc ends (take k ns) (get_or ns k 0 ∷ []))

pub last_pushed : (ends ns : List ℕ) (k : ℕ) → k < length ns → get_or (ends ++ take (k + 1) ns) (length (ends ++ take (k + 1) ns) - 1) 0 ≡ get_or ns k 0
last_pushed ends ns k lt =
    let e = push_next ends ns k lt in
    let size = length-append (ends ++ take k ns) (get_or ns k 0 ∷ []) in
    ap (λ l. get_or l (length l - 1) 0) e ∙ get_or_push (ends ++ take k ns) (get_or ns k 0) 0 (length ((ends ++ take k ns) ++ get_or ns k 0 ∷ []) - 1) (omega (arith, size))

-- ## What came

module _ (n m want : ℕ) (old mid new : Option (List ℕ)) (s t : Sum) (has_failed failed : Bool) (ends ns : List ℕ) (fits : m < 2 ^ 32)
    (ns_fits : (i : ℕ) → get_or ns i 0 < 2 ^ 32) (h : HasEnds old mid s t ends) (right : AreFirstEnds n m ends)
    (come : HasCome want mid ns failed new) (room : length ends + want ≤ n + 1) where
  some : 1 ≤ length ends
  some = omega (arith, ap length h.is)

  took : (start : Option (List ℕ)) → Consumes start old (words (front_words n m)) → Consumes start new (words (head_words n m ++ (ends ++ ns)) ++ come.part)
  took start first =
      let front = front_words n m in
      let both : Consumes start mid (words (front ++ h.came))
      = subst (λ l. Consumes start mid l) (sym (words-append front h.came)) (Consumes-trans start old mid (words front) (words h.came) first h.took) in
      let same : (front ++ h.came) ++ ns ≡ head_words n m ++ (ends ++ ns)
      = append_assoc front h.came ns ∙ append_assoc (head_words n m) (0 ∷ []) (h.came ++ ns) ∙ ap (λ l. head_words n m ++ (l ++ ns)) (sym h.is) in
      subst (λ l. Consumes start new (words l ++ come.part)) same (took_on start mid new (front ++ h.came) ns come.part both come.took)

  all_fit : n < 2 ^ 32 → (i : ℕ) → get_or (head_words n m ++ (ends ++ ns)) i 0 < 2 ^ 32
  all_fit small = fit_both (head_words n m) (ends ++ ns) (head_fits n m small fits) (fit_both ends ns (ends_fit n m ends fits right.rising) ns_fits)

  length-head : length (head_words n m) ≡ 4
  unfolding head_words
  length-head = refl

  all_long : length (head_words n m ++ (ends ++ ns)) ≡ 4 + length ends + length ns
  all_long = omega (arith, length-append (head_words n m) (ends ++ ns), length-append ends ns, length-head)

  all_taken : (k : ℕ) → take (4 + length ends + k) (head_words n m ++ (ends ++ ns)) ≡ head_words n m ++ (ends ++ take k ns)
  all_taken k =
      let front = head_words n m ++ ends in
      let at : 4 + length ends + k ≡ length front + k = omega (arith, length-append (head_words n m) ends, length-head) in
      ap (take (4 + length ends + k)) (sym (append_assoc (head_words n m) ends ns)) ∙ ap (λ i. take i (front ++ ns)) at ∙ take-append-add front ns k
      ∙ append_assoc (head_words n m) ends (take k ns)

  pub end_wrong : (k at : ℕ) → at ≡ 4 * (4 + length ends + k) → k < length ns → AreFirstEnds n m (ends ++ take k ns) → (AreFirstEnds n m (ends ++ take (k + 1) ns) → ⊥)
      → ToldBehind (front_words n m) n m old new has_failed (record { at = at; kind = OutOfRange End })
  end_wrong k at is lt before wrong top most start counts first =
      let word = 4 + length ends + k in
      let front = head_words n m ++ (ends ++ take k ns) in
      let b : BegunGraph top most front = ends_begun top most n m counts (ends ++ take k ns) (omega (arith, length-append ends (take k ns), some)) before in
      let none : BegunGraph top most (head_words n m ++ (ends ++ take (k + 1) ns)) → ⊥
      = λ next. wrong (ends_only top most n m (ends ++ take (k + 1) ns) next (omega (arith, length-append ends (take (k + 1) ns), length-take-le (k + 1) ns (omega arith), room, come.within, lt))) in
      subst (λ x. Told top most start new has_failed (record { at = x; kind = OutOfRange End })) (sym is)
      (told_other top most start new has_failed (head_words n m ++ (ends ++ ns)) come.part (took start first) word (OutOfRange End) front (head_words n m ++ (ends ++ take (k + 1) ns))
      tt (all_fit counts.n_fits) (omega (arith, all_long, lt)) (all_taken k)
      (ap (λ i. take i (head_words n m ++ (ends ++ ns))) (let e : word + 1 ≡ 4 + length ends + (k + 1) = omega arith in e) ∙ all_taken (k + 1))
      b none (omega arith, omega (arith, n_told top most n m (ends ++ take k ns) b, lt, room, come.within)))

  pub end_cut : (k at : ℕ) (kind : PackedKind) → at ≡ 4 * (4 + length ends + k) → k ≡ length ns → k < want → AreFirstEnds n m (ends ++ ns)
      → (failed ≡ false → kind ≡ TooFew) → (failed ≡ true → kind ≡ Read) → (failed ≡ true → has_failed ≡ true)
      → ToldBehind (front_words n m) n m old new has_failed (record { at = at; kind = kind })
  end_cut k at kind is all_of short before few read broken top most start counts first =
      let word = 4 + length ends + k in
      let b = ends_begun top most n m counts (ends ++ ns) (omega (arith, length-append ends ns, some)) before in
      subst (λ x. Told top most start new has_failed (record { at = x; kind = kind })) (sym is)
      (told_cut top most start new has_failed (head_words n m ++ (ends ++ ns)) come.part (took start first) word kind failed few read (omega (arith, all_long, all_of)) come.short
      b (omega (arith, n_told top most n m (ends ++ ns) b, room, short)) (λ is_false. come.ended (omega (arith, all_of, short)) is_false) broken)

  pub end_memory : (at : ℕ) → at ≡ 4 * (4 + length ends) → 1 ≤ length ns → AreFirstEnds n m (ends ++ ns)
      → ToldBehind (front_words n m) n m old new has_failed (record { at = at; kind = Memory })
  end_memory at is more before top most start counts first =
      let word = 4 + length ends in
      let whole = head_words n m ++ (ends ++ ns) in
      let b = ends_begun top most n m counts (ends ++ ns) (omega (arith, length-append ends ns, some)) before in
      subst (λ x. Told top most start new has_failed (record { at = x; kind = Memory })) (sym is)
      (told_memory top most start new has_failed whole come.part (took start first) word (take (word + 1) whole) (omega (arith, all_long, more)) refl
      (begun_take top most whole (word + 1) b))
