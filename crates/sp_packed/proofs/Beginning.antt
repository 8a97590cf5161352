-- Which words the words of a packed graph begin with.
use Rattle.std.proofs.Common.{◌≡◌, ℕ, zero, suc, ◌+◌, ◌-◌, ◌*◌, ◌<◌, ◌≤◌, ◌^◌, ◌⊎◌, List, [], ◌∷◌, ◌++◌, length, get_or, take, drop, replicate, refl, sym, ap, subst, ⊎_elim, ◌∙◌, arith, append_assoc, length-append}
use Rattle.std.proofs.lemmas.Bool.{cases_lt}
use Rattle.std.proofs.lemmas.List.{append-nil, get_or_append_left, get_or-append_right, get_or-replicate, get_or_default, get_or_past, length-replicate, take-append-drop}
use Rattle.sp_paths.specs.declared.arc.Arc.{Arc}
use Rattle.sp_packed.specs.Words.{sum_on, no_sum, sum_words}
use Rattle.sp_packed.specs.Packed.{head_words, arcs_words, content, with_sum}
use Rattle.sp_packed.specs.Ends.{IsRise, AreEnds, AreFirstEnds}
use Rattle.sp_packed.specs.Rows.{AreRows, IsNext, MayFollow, MayHead, MayStand}
use Rattle.sp_packed.specs.Parts.{AreParts, BegunGraph}
use Rattle.sp_packed.specs.Reading.{AreCounts}
use Rattle.sp_packed.proofs.Spelling.{same_parts}
use Rattle.sp_packed.proofs.RowSteps.{length-arcs_words, arcs_words-append, no_rows_yet, rows_more, fill, longest_stands, agree_front, head_only, stand_only}

pub length-sum : (ns : List ℕ) → length (sum_words (sum_on no_sum ns)) ≡ 4
unfolding sum_words
length-sum ns = refl

pub length-parts : (n : ℕ) (ends : List ℕ) (arcs : List Arc) → length (with_sum (content n ends arcs)) ≡ 8 + length ends + 2 * length arcs
unfolding head_words
length-parts n ends arcs =
    omega (
      arith,
      length-append (content n ends arcs) (sum_words (sum_on no_sum (content n ends arcs))),
      length-sum (content n ends arcs),
      length-append ends (arcs_words arcs),
      length-arcs_words arcs,
    )

pub length-content : (n : ℕ) (ends : List ℕ) (arcs : List Arc) → length (content n ends arcs) ≡ 4 + length ends + 2 * length arcs
unfolding head_words
length-content n ends arcs = omega (arith, length-append ends (arcs_words arcs), length-arcs_words arcs)

-- ## What begins

abbrev pub whole_begun : (top most n : ℕ) (ends : List ℕ) (arcs : List Arc) → AreParts top most n ends arcs → BegunGraph top most (with_sum (content n ends arcs))
whole_begun top most n ends arcs parts = record {
  n = n;
  ends = ends;
  arcs = arcs;
  parts = parts;
  more = [];
  is = sym (append-nil (with_sum (content n ends arcs)));
}

module _ (top most : ℕ) where
  pub begun_front : (xs ys : List ℕ) → BegunGraph top most (xs ++ ys) → BegunGraph top most xs
  begun_front xs ys b = record {
    n = b.n;
    ends = b.ends;
    arcs = b.arcs;
    parts = b.parts;
    more = ys ++ b.more;
    is = b.is ∙ append_assoc xs ys b.more;
  }

  pub begun_take : (xs : List ℕ) (k : ℕ) → BegunGraph top most xs → BegunGraph top most (take k xs)
  begun_take xs k b = begun_front (take k xs) (drop k xs) (subst (BegunGraph top most) (sym (take-append-drop k xs)) b)

  module _ (n m : ℕ) (counts : AreCounts top most n m) where
    pub parts_are : (ends : List ℕ) (arcs : List Arc) → AreEnds n m ends → AreRows n ends arcs → length arcs ≡ m → AreParts top most n ends arcs
    parts_are ends arcs are rows size = record {
      some = counts.some;
      n_fits = counts.n_fits;
      n_within = counts.n_within;
      few = subst (λ k. k < 2 ^ 32) (sym size) counts.m_fits;
      within = subst (λ k. k ≤ most) (sym size) counts.m_within;
      ends_are = subst (λ k. AreEnds n k ends) (sym size) are;
      rows = rows;
    }

    -- some arcs of rows that end there
    pub rows_begun : (ends : List ℕ) (arcs : List Arc) → AreEnds n m ends → AreRows n ends arcs → length arcs ≤ m
        → BegunGraph top most (head_words n m ++ (ends ++ arcs_words arcs))
    rows_begun ends arcs are rows le =
        let filled = fill n m ends counts.some are (m - length arcs) arcs rows (omega arith) in
        let added = filled.0 in
        let all = arcs ++ added in
        let parts = parts_are ends all are filled.1 filled.2 in
        let sum = sum_words (sum_on no_sum (content n ends all)) in
        let whole : BegunGraph top most (content n ends all) = begun_front (content n ends all) sum (whole_begun top most n ends all parts) in
        let front = head_words n m ++ (ends ++ arcs_words arcs) in
        let same : content n ends all ≡ front ++ arcs_words added
        = ap (λ k. head_words n k ++ (ends ++ arcs_words all)) filled.2
        ∙ ap (λ l. head_words n m ++ (ends ++ l)) (arcs_words-append arcs added)
        ∙ ap (λ l. head_words n m ++ l) (sym (append_assoc ends (arcs_words arcs) (arcs_words added)))
        ∙ sym (append_assoc (head_words n m) (ends ++ arcs_words arcs) (arcs_words added)) in
        begun_front front (arcs_words added) (subst (BegunGraph top most) same whole)

    -- and the head of the next
    pub head_begun : (ends : List ℕ) (arcs : List Arc) (a : Arc) → AreEnds n m ends → AreRows n ends arcs → length arcs < m
        → IsNext n ends arcs a → MayHead n arcs a → BegunGraph top most (head_words n m ++ (ends ++ (arcs_words arcs ++ (a.head ∷ []))))
    head_begun ends arcs a are rows lt next may =
        let b : Arc = record { tail = a.tail; head = a.head; len = 2 ^ 32 - 1 } in
        let next' : IsNext n ends arcs b = record { some = next.some; within = next.within; row = next.row; fits = omega arith } in
        let may' : MayHead n arcs b
        = record {
          some = may.some;
          within = may.within;
          order = λ ge. subst (λ x. MayFollow x a.tail a.head) (get_or_default arcs (length arcs - 1) a b (omega arith)) (may.order ge);
        } in
        let stands = longest_stands n m ends counts.some are arcs b rows next' refl may' in
        let begun = rows_begun ends (arcs ++ b ∷ []) are (rows_more n ends arcs b rows next' stands) (omega (arith, length-append arcs (b ∷ []), lt)) in
        let front = arcs_words arcs ++ (a.head ∷ []) in
        let last : List ℕ = b.len ∷ [] in
        let same : head_words n m ++ (ends ++ arcs_words (arcs ++ b ∷ [])) ≡ (head_words n m ++ (ends ++ front)) ++ last
        = ap (λ l. head_words n m ++ (ends ++ l)) (arcs_words-append arcs (b ∷ []) ∙ sym (append_assoc (arcs_words arcs) (a.head ∷ []) last))
        ∙ ap (λ l. head_words n m ++ l) (sym (append_assoc ends front last))
        ∙ sym (append_assoc (head_words n m) (ends ++ front) last) in
        begun_front (head_words n m ++ (ends ++ front)) last (subst (BegunGraph top most) same begun)

    -- the first ends of rows
    module _ (ends : List ℕ) (some : 1 ≤ length ends) (h : AreFirstEnds n m ends) where
      size : length (ends ++ replicate (n + 1 - length ends) m) ≡ n + 1
      size = omega (arith, length-append ends (replicate (n + 1 - length ends) m), length-replicate (n + 1 - length ends) m, h.few)

      here : (k : ℕ) → k < length ends → get_or (ends ++ replicate (n + 1 - length ends) m) k 0 ≡ get_or ends k 0
      here k lt = get_or_append_left ends (replicate (n + 1 - length ends) m) 0 k lt

      behind : (k : ℕ) → length ends ≤ k → k < n + 1 → get_or (ends ++ replicate (n + 1 - length ends) m) k 0 ≡ m
      behind k ge lt =
          get_or-append_right ends (replicate (n + 1 - length ends) m) (length ends) k 0 refl ge
          ∙ get_or-replicate (n + 1 - length ends) (k - length ends) m 0 (omega arith)

      low : (k : ℕ) → k < length ends → get_or ends k 0 ≤ m
      low zero lt = omega (arith, h.rising.begin)
      low (suc k) lt = (h.rising.rise (suc k) (omega arith) lt).1

      up : (k : ℕ) → 1 ≤ k → k < length (ends ++ replicate (n + 1 - length ends) m) → IsRise m (ends ++ replicate (n + 1 - length ends) m) k
      up k ge lt = ⊎_elim inside (λ out. ⊎_elim (λ far. beyond far) (λ le. seam (omega (arith, out, le))) (cases_lt (length ends) k)) (cases_lt k (length ends))
        where
          inside : k < length ends → IsRise m (ends ++ replicate (n + 1 - length ends) m) k
          inside less =
              let right = h.rising.rise k ge less in
              (omega (arith, right.0, here k less, here (k - 1) (omega (arith, less))), omega (arith, right.1, here k less))

          seam : length ends ≡ k → IsRise m (ends ++ replicate (n + 1 - length ends) m) k
          seam is =
              let last = low (k - 1) (omega (arith, is, ge)) in
              let at = behind k (omega (arith, is)) (omega (arith, size, lt)) in
              (omega (arith, last, at, here (k - 1) (omega (arith, is, ge))), omega (arith, at))

          beyond : length ends < k → IsRise m (ends ++ replicate (n + 1 - length ends) m) k
          beyond far =
              let at = behind k (omega (arith, far)) (omega (arith, size, lt)) in
              let before = behind (k - 1) (omega (arith, far)) (omega (arith, size, lt)) in
              (omega (arith, at, before), omega (arith, at))

      last : get_or (ends ++ replicate (n + 1 - length ends) m) n 0 ≡ m
      last = ⊎_elim (λ less. here n less ∙ h.last (omega (arith, less, h.few))) (λ ge. behind n ge (omega arith)) (cases_lt n (length ends))

      filled_are : AreEnds n m (ends ++ replicate (n + 1 - length ends) m)
      filled_are = record { size = size; rising = record { begin = here 0 some ∙ h.rising.begin; rise = up }; last = last }

      pub ends_begun : BegunGraph top most (head_words n m ++ ends)
      ends_begun =
          let fills = replicate (n + 1 - length ends) m in
          let begun = rows_begun (ends ++ fills) [] filled_are (no_rows_yet n (ends ++ fills)) (omega arith) in
          let same : head_words n m ++ ((ends ++ fills) ++ []) ≡ (head_words n m ++ ends) ++ fills
          = ap (λ l. head_words n m ++ l) (append-nil (ends ++ fills)) ∙ sym (append_assoc (head_words n m) ends fills) in
          begun_front (head_words n m ++ ends) fills (subst (BegunGraph top most) same begun)

-- ## What words that begin so tell

pub parts_shape : (n : ℕ) (ends : List ℕ) (arcs : List Arc)
    → with_sum (content n ends arcs) ≡ head_words n (length arcs) ++ (ends ++ (arcs_words arcs ++ sum_words (sum_on no_sum (content n ends arcs))))
parts_shape n ends arcs =
    let sum = sum_words (sum_on no_sum (content n ends arcs)) in
    append_assoc (head_words n (length arcs)) (ends ++ arcs_words arcs) sum ∙ ap (λ l. head_words n (length arcs) ++ l) (append_assoc ends (arcs_words arcs) sum)

pub head_same : (n m k l : ℕ) (xs ys : List ℕ) → head_words n m ++ xs ≡ head_words k l ++ ys → (n ≡ k) × (m ≡ l) × (xs ≡ ys)
unfolding head_words
head_same n m k l xs ys e = (ap (λ (x : List ℕ). get_or x 2 0) e, ap (λ (x : List ℕ). get_or x 3 0) e, ap (λ (x : List ℕ). drop 4 x) e)

module _ (top most n m : ℕ) where
  module _ (xs : List ℕ) (b : BegunGraph top most (head_words n m ++ xs)) where
    tells : (b.n ≡ n) × (length b.arcs ≡ m) × (b.ends ++ (arcs_words b.arcs ++ sum_words (sum_on no_sum (content b.n b.ends b.arcs))) ≡ xs ++ b.more)
    tells =
        head_same b.n (length b.arcs) n m (b.ends ++ (arcs_words b.arcs ++ sum_words (sum_on no_sum (content b.n b.ends b.arcs)))) (xs ++ b.more)
        (sym (parts_shape b.n b.ends b.arcs) ∙ b.is ∙ append_assoc (head_words n m) xs b.more)

    pub n_told : b.n ≡ n
    n_told = tells.0

    pub m_told : length b.arcs ≡ m
    m_told = tells.1

    pub ends_there : AreEnds n m b.ends
    ends_there = subst (λ k. AreEnds k m b.ends) tells.0 (subst (λ k. AreEnds b.n k b.ends) tells.1 b.parts.ends_are)

  pub ends_only : (xs : List ℕ) → BegunGraph top most (head_words n m ++ xs) → length xs ≤ n + 1 → AreFirstEnds n m xs
  ends_only xs b few = record { few = few; rising = record { begin = begin; rise = rise }; last = last }
    where
      are : AreEnds n m b.ends
      are = ends_there xs b

      agree : (k : ℕ) → k < length xs → get_or xs k 0 ≡ get_or b.ends k 0
      agree k lt =
          let behind = arcs_words b.arcs ++ sum_words (sum_on no_sum (content b.n b.ends b.arcs)) in
          sym (get_or_append_left xs b.more 0 k lt) ∙ sym (ap (λ l. get_or l k 0) (tells xs b).2) ∙ get_or_append_left b.ends behind 0 k (omega (arith, are.size, few, lt))

      begin : get_or xs 0 0 ≡ 0
      begin = ⊎_elim (λ lt. agree 0 lt ∙ are.rising.begin) (λ none. get_or_past xs 0 0 none) (cases_lt 0 (length xs))

      rise : (k : ℕ) → 1 ≤ k → k < length xs → IsRise m xs k
      rise k ge lt =
          let right = are.rising.rise k ge (omega (arith, are.size, few, lt)) in
          (omega (arith, right.0, agree k lt, agree (k - 1) (omega (arith, lt))), omega (arith, right.1, agree k lt))

      last : length xs ≡ n + 1 → get_or xs n 0 ≡ m
      last full = agree n (omega (arith, full)) ∙ are.last

  module _ (ends : List ℕ) (are : AreEnds n m ends) (ys : List ℕ) (b : BegunGraph top most (head_words n m ++ (ends ++ ys))) where
    behind_ends : (b.ends ≡ ends) × (arcs_words b.arcs ++ sum_words (sum_on no_sum (content b.n b.ends b.arcs)) ≡ ys ++ b.more)
    behind_ends =
        same_parts b.ends ends (arcs_words b.arcs ++ sum_words (sum_on no_sum (content b.n b.ends b.arcs))) (ys ++ b.more)
        ((ends_there (ends ++ ys) b).size ∙ sym are.size) ((tells (ends ++ ys) b).2 ∙ append_assoc ends ys b.more)

    rows_there : AreRows n ends b.arcs
    rows_there = subst (λ k. AreRows k ends b.arcs) (n_told (ends ++ ys) b) (subst (λ l. AreRows b.n l b.arcs) behind_ends.0 b.parts.rows)

    arcs_there : length b.arcs ≡ m
    arcs_there = m_told (ends ++ ys) b

  module _ (ends : List ℕ) (are : AreEnds n m ends) (arcs : List Arc) (a : Arc) (h : AreRows n ends arcs) (lt : length arcs < m) (next : IsNext n ends arcs a) where
    pub head_told : BegunGraph top most (head_words n m ++ (ends ++ (arcs_words arcs ++ (a.head ∷ [])))) → MayHead n arcs a
    head_told b =
        let ys = arcs_words arcs ++ (a.head ∷ []) in
        let there = arcs_there ends are ys b in
        let sum = sum_words (sum_on no_sum (content b.n b.ends b.arcs)) in
        head_only n m ends arcs b.arcs a are (omega (arith, there, lt)) h (rows_there ends are ys b) next []
        (agree_front (arcs_words b.arcs) ys sum b.more (behind_ends ends are ys b).1
        (omega (arith, length-append (arcs_words arcs) (a.head ∷ []), length-arcs_words arcs, length-arcs_words b.arcs, there, lt)))

    pub stand_told : BegunGraph top most (head_words n m ++ (ends ++ (arcs_words arcs ++ (a.head ∷ a.len ∷ [])))) → MayStand n arcs a
    stand_told b =
        let ys = arcs_words arcs ++ (a.head ∷ a.len ∷ []) in
        let there = arcs_there ends are ys b in
        let sum = sum_words (sum_on no_sum (content b.n b.ends b.arcs)) in
        stand_only n m ends arcs b.arcs a are (omega (arith, there, lt)) h (rows_there ends are ys b) next
        (agree_front (arcs_words b.arcs) ys sum b.more (behind_ends ends are ys b).1
        (omega (arith, length-append (arcs_words arcs) (a.head ∷ a.len ∷ []), length-arcs_words arcs, length-arcs_words b.arcs, there, lt)))

  -- the words behind the content are those of its sum
  module _ (ends : List ℕ) (are : AreEnds n m ends) (arcs : List Arc) (size : length arcs ≡ m) (ys : List ℕ)
      (b : BegunGraph top most (head_words n m ++ (ends ++ (arcs_words arcs ++ ys)))) where
    behind_arcs : (arcs_words b.arcs ≡ arcs_words arcs) × (sum_words (sum_on no_sum (content b.n b.ends b.arcs)) ≡ ys ++ b.more)
    behind_arcs =
        same_parts (arcs_words b.arcs) (arcs_words arcs) (sum_words (sum_on no_sum (content b.n b.ends b.arcs))) (ys ++ b.more)
        (omega (arith, length-arcs_words b.arcs, length-arcs_words arcs, arcs_there ends are (arcs_words arcs ++ ys) b, size))
        ((behind_ends ends are (arcs_words arcs ++ ys) b).1 ∙ append_assoc (arcs_words arcs) ys b.more)

    pub sum_told : sum_words (sum_on no_sum (head_words n m ++ (ends ++ arcs_words arcs))) ≡ ys ++ b.more
    sum_told =
        let all = arcs_words arcs ++ ys in
        let same : content b.n b.ends b.arcs ≡ head_words n m ++ (ends ++ arcs_words arcs)
        = ap (λ k. head_words k (length b.arcs) ++ (b.ends ++ arcs_words b.arcs)) (n_told (ends ++ all) b)
        ∙ ap (λ k. head_words n k ++ (b.ends ++ arcs_words b.arcs)) (m_told (ends ++ all) b)
        ∙ ap (λ l. head_words n m ++ (l ++ arcs_words b.arcs)) (behind_ends ends are all b).0
        ∙ ap (λ l. head_words n m ++ (ends ++ l)) behind_arcs.0 in
        ap (λ l. sum_words (sum_on no_sum l)) (sym same) ∙ behind_arcs.1
