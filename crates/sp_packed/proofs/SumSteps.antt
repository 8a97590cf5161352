-- The sum, as it comes, and the whole.
use Rattle.std.proofs.Common.{◌≡◌, ℕ, ◌+◌, ◌*◌, ◌<◌, ◌≤◌, ◌^◌, Bool, true, false, List, [], ◌++◌, length, get_or, take, drop, refl, sym, ap, subst, ◌∙◌, arith, append_assoc, length-append, Option}
use Rattle.std.specs.Io.KnownBytes.{Consumes}
use Rattle.std.proofs.KnownBytes.{Consumes-trans}
use Rattle.std.proofs.Math.Seq.{take-append-add}
use Rattle.std.proofs.lemmas.List.{append-nil, take_all, take-append-drop, get_or_append_left, get_or-take, length-take-le}
use Rattle.sp_paths.specs.declared.arc.Arc.{Arc}
use Rattle.sp_packed.specs.declared.word_sums.Sum.{Sum}
use Rattle.sp_packed.specs.declared.faults.PackedKind.{PackedKind}
use Rattle.sp_packed.specs.declared.faults.PackedKind.TheVariants.{OtherSum, TooMany, TooFew, Read}
use Rattle.sp_packed.specs.Words.{words, sum_on, no_sum, sum_words, HasCome}
use Rattle.sp_packed.specs.Packed.{head_words, arcs_words, content, with_sum}
use Rattle.sp_packed.specs.Ends.{AreRising, AreEnds}
use Rattle.sp_packed.specs.Rows.{AreRows}
use Rattle.sp_packed.specs.Parts.{BegunGraph}
use Rattle.sp_packed.specs.Reading.{AreCounts, Told, ToldBehind}
use Rattle.sp_packed.proofs.Spelling.{fit_both}
use Rattle.sp_packed.proofs.FrontSteps.{take_same}
use Rattle.sp_packed.proofs.Beginning.{length-sum, length-content, whole_begun, begun_front, parts_are, n_told, m_told, sum_told}
use Rattle.sp_packed.proofs.Graphs.{content_fits}
use Rattle.sp_packed.proofs.Telling.{told_other, told_cut, told_many, told_end, took_on}

module _ (n m : ℕ) (ends : List ℕ) (arcs : List Arc) (are : AreEnds n m ends) (rows : AreRows n ends arcs) (all : length arcs ≡ m)
    (old mid new : Option (List ℕ)) (has_failed failed : Bool) (s : Sum) (is : s ≡ sum_on no_sum (content n ends arcs)) (ns : List ℕ)
    (ns_fits : (i : ℕ) → get_or ns i 0 < 2 ^ 32) (come : HasCome 4 old ns failed mid) where
  took : (start : Option (List ℕ)) → Consumes start old (words (content n ends arcs)) → Consumes start mid (words (content n ends arcs ++ ns) ++ come.part)
  took start first = took_on start old mid (content n ends arcs) ns come.part first come.took

  long : length (content n ends arcs) ≡ 5 + n + 2 * m
  long = omega (arith, length-content n ends arcs, are.size, all)

  all_fit : n < 2 ^ 32 → m < 2 ^ 32 → (i : ℕ) → get_or (content n ends arcs ++ ns) i 0 < 2 ^ 32
  all_fit hn hm = fit_both (content n ends arcs) ns (content_fits n (length arcs) ends arcs hn (subst (λ k. k < 2 ^ 32) (sym all) hm) rising rows) ns_fits
    where
      rising : AreRising (length arcs) ends
      rising = subst (λ k. AreRising k ends) (sym all) are.rising

  all_taken : (k j : ℕ) → k ≡ 5 + n + 2 * m + j → take k (content n ends arcs ++ ns) ≡ content n ends arcs ++ take j ns
  all_taken k j e =
      ap (λ i. take i (content n ends arcs ++ ns)) (let at : k ≡ length (content n ends arcs) + j = omega (arith, e, long) in at) ∙ take-append-add (content n ends arcs) ns j

  four : length (sum_words (sum_on no_sum (content n ends arcs))) ≡ 4
  four = length-sum (content n ends arcs)

  -- the first words of the sum
  module _ (k : ℕ) (le : k ≤ length ns) (same : (i : ℕ) → i < k → get_or ns i 0 ≡ get_or (sum_words s) i 0) where
    same_here : (i : ℕ) → i < k → get_or ns i 0 ≡ get_or (sum_words (sum_on no_sum (content n ends arcs))) i 0
    same_here i lt = same i lt ∙ ap (λ v. get_or (sum_words v) i 0) is

    taken : take k ns ≡ take k (sum_words (sum_on no_sum (content n ends arcs)))
    taken = take_same k ns (sum_words (sum_on no_sum (content n ends arcs))) le (omega (arith, four, le, come.within)) same_here

    begun : (top most : ℕ) → AreCounts top most n m → BegunGraph top most (content n ends arcs ++ take k ns)
    begun top most counts =
        let sum = sum_words (sum_on no_sum (content n ends arcs)) in
        let whole = whole_begun top most n ends arcs (parts_are top most n m counts ends arcs are rows all) in
        let split : with_sum (content n ends arcs) ≡ (content n ends arcs ++ take k ns) ++ drop k sum
        = ap (λ l. content n ends arcs ++ l) (sym (take-append-drop k sum)) ∙ sym (append_assoc (content n ends arcs) (take k sum) (drop k sum))
        ∙ ap (λ l. (content n ends arcs ++ l) ++ drop k sum) (sym taken) in
        begun_front top most (content n ends arcs ++ take k ns) (drop k sum) (subst (BegunGraph top most) split whole)

    -- the words of a text that begins with the content
    shape : (l : List ℕ) → content n ends arcs ++ l ≡ head_words n m ++ (ends ++ (arcs_words arcs ++ l))
    shape l =
        append_assoc (head_words n (length arcs)) (ends ++ arcs_words arcs) l ∙ ap (λ x. head_words n (length arcs) ++ x) (append_assoc ends (arcs_words arcs) l)
        ∙ ap (λ i. head_words n i ++ (ends ++ (arcs_words arcs ++ l))) all

    counted : (top most : ℕ) (l : List ℕ) (b : BegunGraph top most (content n ends arcs ++ l)) → (b.n ≡ n) × (length b.arcs ≡ m)
    counted top most l b =
        let b' : BegunGraph top most (head_words n m ++ (ends ++ (arcs_words arcs ++ l)))
        = record { n = b.n; ends = b.ends; arcs = b.arcs; parts = b.parts; more = b.more; is = b.is ∙ ap (λ x. x ++ b.more) (shape l) } in
        (n_told top most n m (ends ++ (arcs_words arcs ++ l)) b', m_told top most n m (ends ++ (arcs_words arcs ++ l)) b')

    pub sum_wrong : (at : ℕ) → at ≡ 4 * (5 + n + 2 * m + k) → k < length ns → (get_or ns k 0 ≡ get_or (sum_words s) k 0 → ⊥)
        → ToldBehind (content n ends arcs) n m old mid has_failed (record { at = at; kind = OtherSum })
    sum_wrong at e lt other top most start counts first =
        let word = 5 + n + 2 * m + k in
        let whole = content n ends arcs ++ ns in
        let next = take (k + 1) ns in
        let b = begun top most counts in
        let none : BegunGraph top most (content n ends arcs ++ take (k + 1) ns) → ⊥
        = λ c.
        let c' = subst (BegunGraph top most) (shape next) c in
        let told = sum_told top most n m ends are arcs all next c' in
        let size : length next ≡ k + 1 = length-take-le (k + 1) ns (omega arith) in
        let head : head_words n m ++ (ends ++ arcs_words arcs) ≡ content n ends arcs = ap (λ i. head_words n i ++ (ends ++ arcs_words arcs)) (sym all) in
        other (
        sym (get_or-take (k + 1) ns k 0 (omega arith)) ∙ sym (get_or_append_left next c'.more 0 k (omega (arith, size))) ∙ sym (ap (λ l. get_or l k 0) told)
        ∙ ap (λ l. get_or (sum_words (sum_on no_sum l)) k 0) head ∙ ap (λ v. get_or (sum_words v) k 0) (sym is)
        ) in
        let at_most = counted top most (take k ns) b in
        subst (λ x. Told top most start mid has_failed (record { at = x; kind = OtherSum })) (sym e)
        (told_other top most start mid has_failed whole come.part (took start first) word OtherSum (content n ends arcs ++ take k ns) (content n ends arcs ++ next)
        tt (all_fit counts.n_fits counts.m_fits) (omega (arith, length-append (content n ends arcs) ns, long, lt))
        (all_taken word k refl) (all_taken (word + 1) (k + 1) (omega arith)) b none
        (omega (arith, at_most.0, at_most.1), omega (arith, at_most.0, at_most.1, lt, come.within)))

    pub sum_cut : (at : ℕ) (kind : PackedKind) → at ≡ 4 * (5 + n + 2 * m + k) → k ≡ length ns → k < 4 → (failed ≡ false → kind ≡ TooFew) → (failed ≡ true → kind ≡ Read)
        → (failed ≡ true → has_failed ≡ true) → ToldBehind (content n ends arcs) n m old mid has_failed (record { at = at; kind = kind })
    sum_cut at kind e all_of short few read broken top most start counts first =
        let word = 5 + n + 2 * m + k in
        let whole = content n ends arcs ++ ns in
        let b : BegunGraph top most whole = subst (λ l. BegunGraph top most (content n ends arcs ++ l)) (take_all k ns (omega (arith, all_of))) (begun top most counts) in
        let at_most = counted top most ns b in
        subst (λ x. Told top most start mid has_failed (record { at = x; kind = kind })) (sym e)
        (told_cut top most start mid has_failed whole come.part (took start first) word kind failed few read (omega (arith, length-append (content n ends arcs) ns, long, all_of)) come.short
        b (omega (arith, at_most.0, at_most.1, short)) (λ is_false. come.ended (omega (arith, all_of, short)) is_false) broken)

    whole_sum : k ≡ 4 → ns ≡ sum_words (sum_on no_sum (content n ends arcs))
    whole_sum e =
        sym (take_all k ns (omega (arith, e, come.within))) ∙ taken ∙ take_all k (sum_words (sum_on no_sum (content n ends arcs))) (omega (arith, four, e))

    took_whole : k ≡ 4 → (start : Option (List ℕ)) → Consumes start old (words (content n ends arcs)) → Consumes start mid (words (with_sum (content n ends arcs)))
    took_whole e start first =
        let none : come.part ≡ [] = come.full (omega (arith, e, le)) in
        subst (λ l. Consumes start mid (words (content n ends arcs ++ l))) (whole_sum e)
        (subst (λ l. Consumes start mid l) (ap (λ l. words (content n ends arcs ++ ns) ++ l) none ∙ append-nil (words (content n ends arcs ++ ns))) (took start first))

    pub bytes_behind : (at : ℕ) (bytes : List ℕ) → at ≡ 4 * (5 + n + 2 * m + 4) → k ≡ 4 → Consumes mid new bytes → 0 < length bytes
        → ToldBehind (content n ends arcs) n m old new has_failed (record { at = at; kind = TooMany })
    bytes_behind at bytes e full then some top most start counts first =
        let parts = parts_are top most n m counts ends arcs are rows all in
        let both : Consumes start new (words (with_sum (content n ends arcs)) ++ bytes)
        = Consumes-trans start mid new (words (with_sum (content n ends arcs))) bytes (took_whole full start first) then in
        subst (λ x. Told top most start new has_failed (record { at = x; kind = TooMany })) (sym e)
        (told_many top most n ends arcs parts start new has_failed bytes (5 + n + 2 * m + 4) both some (omega (arith, all)))

    pub failed_behind : (at : ℕ) → at ≡ 4 * (5 + n + 2 * m + 4) → k ≡ 4 → Consumes mid new [] → has_failed ≡ true
        → ToldBehind (content n ends arcs) n m old new has_failed (record { at = at; kind = Read })
    failed_behind at e full then broken top most start counts first =
        let parts = parts_are top most n m counts ends arcs are rows all in
        let both : Consumes start new (words (with_sum (content n ends arcs)))
        = subst (λ l. Consumes start new l) (append-nil (words (with_sum (content n ends arcs))))
        (Consumes-trans start mid new (words (with_sum (content n ends arcs))) [] (took_whole full start first) then) in
        subst (λ x. Told top most start new has_failed (record { at = x; kind = Read })) (sym e)
        (told_end top most n ends arcs parts start new has_failed (5 + n + 2 * m + 4) both (omega (arith, all)) broken)

length-sum_words : (s : Sum) → length (sum_words s) ≡ 4
unfolding sum_words
length-sum_words s = refl

-- The sum came whole, and nothing behind it.
pub sum_came : (old mid new : Option (List ℕ)) (failed : Bool) (s : Sum) (ns : List ℕ) (k : ℕ) → HasCome 4 old ns failed mid → k ≡ 4 → k ≤ length ns
    → ((i : ℕ) → i < k → get_or ns i 0 ≡ get_or (sum_words s) i 0) → Consumes mid new [] → Consumes old new (words (sum_words s))
sum_came old mid new failed s ns k come full le same then =
    let is : ns ≡ sum_words s
    = sym (take_all k ns (omega (arith, full, come.within))) ∙ take_same k ns (sum_words s) le (omega (arith, length-sum_words s, full)) same
    ∙ take_all k (sum_words s) (omega (arith, length-sum_words s, full)) in
    let none : come.part ≡ [] = come.full (omega (arith, full, le)) in
    let whole : (words ns ++ come.part) ++ [] ≡ words (sum_words s)
    = append-nil (words ns ++ come.part) ∙ ap (λ l. words ns ++ l) none ∙ append-nil (words ns) ∙ ap words is in
    subst (λ l. Consumes old new l) whole (Consumes-trans old mid new (words ns ++ come.part) [] come.took then)
