-- What is told where arcs come.
use Rattle.std.proofs.Common.{◌≡◌, ℕ, ◌+◌, ◌-◌, ◌*◌, ◌/◌, ◌%◌, ◌<◌, ◌≤◌, ◌^◌, ◌⊎◌, Bool, true, List, [], ◌∷◌, ◌++◌, length, get_or, take, refl, sym, ap, subst, ⊎_elim, ◌∙◌, arith, append_assoc, length-append, Option}
use Rattle.std.specs.Io.KnownBytes.{Consumes}
use Rattle.std.proofs.KnownBytes.{Consumes-trans}
use Rattle.std.proofs.Math.Seq.{take-append-add}
use Rattle.std.proofs.lemmas.List.{append-nil, take_all, take_more}
use Rattle.sp_paths.specs.declared.arc.Arc.{Arc}
use Rattle.sp_packed.specs.declared.word_sums.Sum.{Sum}
use Rattle.sp_packed.specs.declared.faults.PackedFault.{PackedFault}
use Rattle.sp_packed.specs.declared.faults.PackedKind.TheVariants.{OutOfRange, Memory}
use Rattle.sp_packed.specs.declared.faults.PackedField.TheVariants.{Head, Length}
use Rattle.sp_packed.specs.Words.{words, sum_on, HasCome}
use Rattle.sp_packed.specs.Packed.{head_words, arcs_words}
use Rattle.sp_packed.specs.Ends.{AreEnds}
use Rattle.sp_packed.specs.Rows.{AreRows, IsNext, MayFollow, MayHead, MayStand, IsRefusedIn, IsCutAt, IsCutIn, HasRows, words_to}
use Rattle.sp_graph.specs.Order.{IsNoGreater}
use Rattle.sp_packed.specs.Parts.{BegunGraph}
use Rattle.sp_packed.specs.Reading.{AreCounts, Told, ToldBehind}
use Rattle.sp_packed.proofs.Spelling.{words-append, sum_on-append, fit_both}
use Rattle.sp_packed.proofs.RowSteps.{length-arcs_words, arcs_words-append, arcs_fit}
use Rattle.sp_packed.proofs.Beginning.{rows_begun, head_begun, head_told, stand_told, n_told, m_told}
use Rattle.sp_packed.proofs.Graphs.{head_fits, ends_fit}
use Rattle.sp_packed.proofs.Telling.{told_other, told_memory, told_cut, took_on}

pub rows_came : (old mid new : Option (List ℕ)) (s t u : Sum) (arcs added : List Arc) (ns : List ℕ) (want : ℕ) (failed : Bool) → HasRows old mid s t arcs
    → HasCome (2 * want) mid ns failed new → 2 * want ≤ length ns
    → arcs_words added ≡ take (2 * (length ns / 2)) ns → u ≡ sum_on t ns → HasRows old new s u (arcs ++ added)
rows_came old mid new s t u arcs added ns want failed h come ge spelled sum =
    let all : arcs_words added ≡ ns = spelled ∙ take_all (2 * (length ns / 2)) ns (omega (arith, ge, come.within)) in
    let none : words ns ++ come.part ≡ words ns = ap (λ l. words ns ++ l) (come.full ge) ∙ append-nil (words ns) in
    let both : arcs_words (arcs ++ added) ≡ arcs_words arcs ++ ns = arcs_words-append arcs added ∙ ap (λ l. arcs_words arcs ++ l) all in
    record {
      took = subst (λ l. Consumes old new (words l)) (sym both)
          (subst (λ l. Consumes old new l) (sym (words-append (arcs_words arcs) ns))
          (Consumes-trans old mid new (words (arcs_words arcs)) (words ns) h.took (subst (λ l. Consumes mid new l) none come.took)));
      sum = sum ∙ ap (λ v. sum_on v ns) h.sum ∙ sym (sum_on-append s (arcs_words arcs) ns) ∙ ap (sum_on s) (sym both);
    }

head_of_order : (b a : Arc) → IsNoGreater b a → MayFollow b a.tail a.head
head_of_order b a h = grind arith

pub head_of_stand : (n : ℕ) (arcs : List Arc) (a : Arc) → MayStand n arcs a → MayHead n arcs a
head_of_stand n arcs a h = record { some = h.some; within = h.within; order = λ ge. head_of_order (get_or arcs (length arcs - 1) a) a (h.order ge) }

module _ (n m want : ℕ) (ends : List ℕ) (old mid new : Option (List ℕ)) (s t : Sum) (has_failed failed : Bool) (arcs : List Arc) (ns : List ℕ)
    (are : AreEnds n m ends) (rows : AreRows n ends arcs) (ns_fits : (i : ℕ) → get_or ns i 0 < 2 ^ 32) (h : HasRows old mid s t arcs)
    (come : HasCome (2 * want) mid ns failed new) (room : length arcs + want ≤ m) where
  length-head : length (head_words n m) ≡ 4
  unfolding head_words
  length-head = refl

  took : (start : Option (List ℕ)) → Consumes start old (words (head_words n m ++ ends)) → Consumes start new (words (head_words n m ++ (ends ++ (arcs_words arcs ++ ns))) ++ come.part)
  took start first =
      let front = head_words n m ++ ends in
      let both : Consumes start mid (words (front ++ arcs_words arcs))
      = subst (λ l. Consumes start mid l) (sym (words-append front (arcs_words arcs))) (Consumes-trans start old mid (words front) (words (arcs_words arcs)) first h.took) in
      let same : (front ++ arcs_words arcs) ++ ns ≡ head_words n m ++ (ends ++ (arcs_words arcs ++ ns))
      = append_assoc front (arcs_words arcs) ns ∙ append_assoc (head_words n m) ends (arcs_words arcs ++ ns) in
      subst (λ l. Consumes start new (words l ++ come.part)) same (took_on start mid new (front ++ arcs_words arcs) ns come.part both come.took)

  all_fit : n < 2 ^ 32 → m < 2 ^ 32 → (i : ℕ) → get_or (head_words n m ++ (ends ++ (arcs_words arcs ++ ns))) i 0 < 2 ^ 32
  all_fit small fits =
      fit_both (head_words n m) (ends ++ (arcs_words arcs ++ ns)) (head_fits n m small fits)
      (fit_both ends (arcs_words arcs ++ ns) (ends_fit n m ends fits are.rising) (fit_both (arcs_words arcs) ns (arcs_fit n arcs small rows.arcs_are rows.lengths) ns_fits))

  -- the words are those of some arcs, and then others
  module _ (done : List Arc) (others : List ℕ) (is : arcs_words arcs ++ ns ≡ arcs_words done ++ others) where
    all_is : head_words n m ++ (ends ++ (arcs_words arcs ++ ns)) ≡ head_words n m ++ (ends ++ (arcs_words done ++ others))
    all_is = ap (λ l. head_words n m ++ (ends ++ l)) is

    all_long : length (head_words n m ++ (ends ++ (arcs_words arcs ++ ns))) ≡ words_to n (length done) + length others
    all_long =
        omega (
          arith,
          ap length all_is,
          length-append (head_words n m) (ends ++ (arcs_words done ++ others)),
          length-append ends (arcs_words done ++ others),
          length-append (arcs_words done) others,
          length-arcs_words done,
          length-head,
          are.size,
        )

    all_taken : (k j : ℕ) → k ≡ words_to n (length done) + j → take k (head_words n m ++ (ends ++ (arcs_words arcs ++ ns))) ≡ head_words n m ++ (ends ++ (arcs_words done ++ take j others))
    all_taken k j e =
        let front = (head_words n m ++ ends) ++ arcs_words done in
        let whole : head_words n m ++ (ends ++ (arcs_words arcs ++ ns)) ≡ front ++ others
        = all_is ∙ sym (append_assoc (head_words n m) ends (arcs_words done ++ others)) ∙ sym (append_assoc (head_words n m ++ ends) (arcs_words done) others) in
        let at : k ≡ length front + j
        = omega (arith, e, length-append (head_words n m ++ ends) (arcs_words done), length-append (head_words n m) ends, length-arcs_words done, length-head, are.size) in
        ap (take k) whole ∙ ap (λ i. take i (front ++ others)) at ∙ take-append-add front others j
        ∙ append_assoc (head_words n m ++ ends) (arcs_words done) (take j others) ∙ append_assoc (head_words n m) ends (arcs_words done ++ take j others)

    pub head_wrong : (a : Arc) (rest : List ℕ) → others ≡ a.head ∷ rest → AreRows n ends done → length done < m → IsNext n ends done a → (MayHead n done a → ⊥)
        → ToldBehind (head_words n m ++ ends) n m old new has_failed (record { at = 4 * words_to n (length done); kind = OutOfRange Head })
    head_wrong a rest e right lt next wrong top most start counts first =
        let word = words_to n (length done) in
        let whole = head_words n m ++ (ends ++ (arcs_words arcs ++ ns)) in
        let front = head_words n m ++ (ends ++ arcs_words done) in
        let b : BegunGraph top most front = rows_begun top most n m counts ends done are right (omega arith) in
        told_other top most start new has_failed whole come.part (took start first) word (OutOfRange Head) front (head_words n m ++ (ends ++ (arcs_words done ++ (a.head ∷ []))))
        tt (all_fit counts.n_fits counts.m_fits) (omega (arith, all_long, ap length e))
        (all_taken word 0 (omega arith) ∙ ap (λ l. head_words n m ++ (ends ++ l)) (append-nil (arcs_words done)))
        (all_taken (word + 1) 1 (omega arith) ∙ ap (λ l. head_words n m ++ (ends ++ (arcs_words done ++ take 1 l))) e)
        b (λ begun. wrong (head_told top most n m ends are done a right lt next begun))
        (length done, omega (arith, lt, m_told top most n m (ends ++ arcs_words done) b), omega (arith, n_told top most n m (ends ++ arcs_words done) b))

    pub length_wrong : (a : Arc) (rest : List ℕ) → others ≡ a.head ∷ a.len ∷ rest → AreRows n ends done → length done < m → IsNext n ends done a → MayHead n done a
        → (MayStand n done a → ⊥) → ToldBehind (head_words n m ++ ends) n m old new has_failed (record { at = 4 * (words_to n (length done) + 1); kind = OutOfRange Length })
    length_wrong a rest e right lt next may wrong top most start counts first =
        let word = words_to n (length done) + 1 in
        let whole = head_words n m ++ (ends ++ (arcs_words arcs ++ ns)) in
        let behind = ends ++ (arcs_words done ++ (a.head ∷ [])) in
        let b : BegunGraph top most (head_words n m ++ behind) = head_begun top most n m counts ends done a are right lt next may in
        told_other top most start new has_failed whole come.part (took start first) word (OutOfRange Length) (head_words n m ++ behind) (head_words n m ++ (ends ++ (arcs_words done ++ (a.head ∷ a.len ∷ []))))
        tt (all_fit counts.n_fits counts.m_fits) (omega (arith, all_long, ap length e))
        (all_taken word 1 (omega arith) ∙ ap (λ l. head_words n m ++ (ends ++ (arcs_words done ++ take 1 l))) e)
        (all_taken (word + 1) 2 (omega arith) ∙ ap (λ l. head_words n m ++ (ends ++ (arcs_words done ++ take 2 l))) e)
        b (λ begun. wrong (stand_told top most n m ends are done a right lt next begun))
        (length done, omega (arith, lt, m_told top most n m behind b), omega (arith, n_told top most n m behind b))

    pub no_room : (a : Arc) (rest : List ℕ) → others ≡ a.head ∷ rest → AreRows n ends done → length done < m → IsNext n ends done a → MayHead n done a
        → ToldBehind (head_words n m ++ ends) n m old new has_failed (record { at = 4 * words_to n (length done); kind = Memory })
    no_room a rest e right lt next may top most start counts first =
        let word = words_to n (length done) in
        let whole = head_words n m ++ (ends ++ (arcs_words arcs ++ ns)) in
        told_memory top most start new has_failed whole come.part (took start first) word (head_words n m ++ (ends ++ (arcs_words done ++ (a.head ∷ []))))
        (omega (arith, all_long, ap length e)) (all_taken (word + 1) 1 (omega arith) ∙ ap (λ l. head_words n m ++ (ends ++ (arcs_words done ++ take 1 l))) e)
        (head_begun top most n m counts ends done a are right lt next may)

    -- no more words came whole
    pub cut_behind : (k : ℕ) (e : PackedFault) → k ≡ words_to n (length done) + length others → (length others < 2) → length done < m → IsCutAt k failed e
        → ((top most : ℕ) → AreCounts top most n m → BegunGraph top most (head_words n m ++ (ends ++ (arcs_words done ++ others))))
        → length ns < 2 * want → (failed ≡ true → has_failed ≡ true) → ToldBehind (head_words n m ++ ends) n m old new has_failed e
    cut_behind k e long few lt cut begun short broken top most start counts first =
        let whole = head_words n m ++ (ends ++ (arcs_words arcs ++ ns)) in
        let behind = ends ++ (arcs_words arcs ++ ns) in
        let b : BegunGraph top most (head_words n m ++ behind) = subst (BegunGraph top most) (sym all_is) (begun top most counts) in
        subst (λ x. Told top most start new has_failed (record { at = x; kind = e.kind })) (sym cut.at)
        (told_cut top most start new has_failed whole come.part (took start first) k e.kind failed cut.few cut.read (omega (arith, all_long, long)) come.short
        b (omega (arith, long, few, lt, n_told top most n m behind b, m_told top most n m behind b)) (λ is_false. come.ended short is_false) broken)

  pub arc_refused : (e : PackedFault) → length ns ≤ 2 * want → IsRefusedIn n ends arcs ns e → ToldBehind (head_words n m ++ ends) n m old new has_failed e
  arc_refused e within h =
      ⊎_elim
      (λ head. subst (ToldBehind (head_words n m ++ ends) n m old new has_failed) (sym head.0)
      (head_wrong done others is h.arc (h.arc.len ∷ h.rest) refl h.rows lt h.next head.1))
      (λ later. ⊎_elim
      (λ len. subst (ToldBehind (head_words n m ++ ends) n m old new has_failed) (sym len.0)
      (length_wrong done others is h.arc h.rest refl h.rows lt h.next len.1 len.2))
      (λ room. subst (ToldBehind (head_words n m ++ ends) n m old new has_failed) (sym room.0)
      (no_room done others is h.arc (h.arc.len ∷ h.rest) refl h.rows lt h.next (head_of_stand n done h.arc room.1)))
      later)
      h.refused
    where
      done : List Arc
      done = arcs ++ h.added

      others : List ℕ
      others = h.arc.head ∷ h.arc.len ∷ h.rest

      is : arcs_words arcs ++ ns ≡ arcs_words (arcs ++ h.added) ++ (h.arc.head ∷ h.arc.len ∷ h.rest)
      is =
          ap (λ l. arcs_words arcs ++ l) h.spells ∙ sym (append_assoc (arcs_words arcs) (arcs_words h.added) (h.arc.head ∷ h.arc.len ∷ h.rest))
          ∙ ap (λ l. l ++ (h.arc.head ∷ h.arc.len ∷ h.rest)) (sym (arcs_words-append arcs h.added))

      lt : length (arcs ++ h.added) < m
      lt =
          omega (
            arith,
            room,
            within,
            ap length h.spells,
            length-append (arcs_words h.added) (h.arc.head ∷ h.arc.len ∷ h.rest),
            length-arcs_words h.added,
            length-append arcs h.added,
          )

  pub arcs_cut : (added : List Arc) (e : PackedFault) → arcs_words added ≡ take (2 * (length ns / 2)) ns → length added ≡ length ns / 2 → AreRows n ends (arcs ++ added)
      → length ns < 2 * want → (failed ≡ true → has_failed ≡ true) → IsCutIn n ends (arcs ++ added) ns failed e
      → ToldBehind (head_words n m ++ ends) n m old new has_failed e
  arcs_cut added e spelled size right short broken h = ⊎_elim even odd h
    where
      done : List Arc
      done = arcs ++ added

      lt : length (arcs ++ added) < m
      lt = omega (arith, length-append arcs added, size, short, room)

      even : (length ns % 2 ≡ 0) × IsCutAt (words_to n (length (arcs ++ added))) failed e → ToldBehind (head_words n m ++ ends) n m old new has_failed e
      even (none, cut) =
          let whole : arcs_words added ≡ ns = spelled ∙ take_all (2 * (length ns / 2)) ns (omega (arith, none)) in
          let is : arcs_words arcs ++ ns ≡ arcs_words (arcs ++ added) ++ []
          = ap (λ l. arcs_words arcs ++ l) (sym whole) ∙ sym (arcs_words-append arcs added) ∙ sym (append-nil (arcs_words (arcs ++ added))) in
          cut_behind done [] is (words_to n (length done)) e (omega arith) (omega arith) lt cut
          (λ top most counts. subst (λ l. BegunGraph top most (head_words n m ++ (ends ++ l))) (sym (append-nil (arcs_words done))) (rows_begun top most n m counts ends done are right (omega (arith, lt))))
          short broken

      odd : (a : Arc) × (length ns % 2 ≡ 1) × (a.head ≡ get_or ns (length ns - 1) 0) × IsNext n ends (arcs ++ added) a
          × (((e ≡ record { at = 4 * words_to n (length (arcs ++ added)); kind = OutOfRange Head }) × (MayHead n (arcs ++ added) a → ⊥))
          ⊎ (MayHead n (arcs ++ added) a × IsCutAt (words_to n (length (arcs ++ added)) + 1) failed e)) → ToldBehind (head_words n m ++ ends) n m old new has_failed e
      odd (a, one, head, next, which) =
          let k = 2 * (length ns / 2) in
          let more : k < length ns = omega (arith, one) in
          let last : take (k + 1) ns ≡ take k ns ++ get_or ns k 0 ∷ [] = take_more ns k 0 more in
          let at : get_or ns k 0 ≡ a.head = ap (λ i. get_or ns i 0) (let e' : k ≡ length ns - 1 = omega (arith, one) in e') ∙ sym head in
          let whole : ns ≡ arcs_words added ++ a.head ∷ []
          = sym (take_all (k + 1) ns (omega (arith, one))) ∙ last ∙ ap (λ x. take k ns ++ x ∷ []) at ∙ ap (λ l. l ++ a.head ∷ []) (sym spelled) in
          let is : arcs_words arcs ++ ns ≡ arcs_words (arcs ++ added) ++ a.head ∷ []
          = ap (λ l. arcs_words arcs ++ l) whole ∙ sym (append_assoc (arcs_words arcs) (arcs_words added) (a.head ∷ [])) ∙ ap (λ l. l ++ a.head ∷ []) (sym (arcs_words-append arcs added)) in
          ⊎_elim
          (λ wrong. subst (ToldBehind (head_words n m ++ ends) n m old new has_failed) (sym wrong.0) (head_wrong done (a.head ∷ []) is a [] refl right lt next wrong.1))
          (λ cut. cut_behind done (a.head ∷ []) is (words_to n (length done) + 1) e (omega arith) (omega arith) lt cut.1
          (λ top most counts. head_begun top most n m counts ends done a are right lt next cut.0) short broken)
          which
