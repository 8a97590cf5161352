-- The arcs of rows, as they come.
use Rattle.std.proofs.Common.{◌≡◌, ℕ, zero, suc, ◌+◌, ◌-◌, ◌*◌, ◌<◌, ◌≤◌, ◌^◌, ◌⊎◌, List, [], ◌∷◌, ◌++◌, length, get_or, take, drop, max, refl, sym, ap, subst, inl, inr, ⊎_elim, ◌∙◌, arith, append_assoc, length-append, Option}
use Rattle.std.specs.Prelude.{All}
use Rattle.std.proofs.KnownBytes.{Consumes-nil}
use Rattle.std.proofs.Math.Seq.{drop-append_seam}
use Rattle.std.proofs.lemmas.Bool.{cases_lt}
use Rattle.std.proofs.lemmas.List.{get_or_append_left, get_or_at, get_or_push, get_or_default, append-nil, take_more, take_all}
use Rattle.std.proofs.lemmas.List.Concat.{flat_map-append}
use Rattle.std.proofs.lemmas.List.Elements.{All-push, All-get_or, All-nil, All-head, All-tail}
use Rattle.sp_paths.specs.declared.arc.Arc.{Arc}
use Rattle.sp_paths.specs.Paths.{IsArc}
use Rattle.sp_graph.specs.Order.{IsNoGreater, IsInOrder}
use Rattle.sp_graph.specs.Lengths.{AreLengths, of_both}
use Rattle.sp_graph.specs.declared.lengths.Lengths.{Lengths}
use Rattle.sp_graph.proofs.LengthSums.{lengths_both}
use Rattle.sp_packed.specs.declared.word_sums.Sum.{Sum}
use Rattle.sp_packed.specs.Words.{sum_on}
use Rattle.sp_packed.specs.Packed.{arc_words, arcs_words}
use Rattle.sp_packed.specs.Ends.{AreRising, AreEnds}
use Rattle.sp_packed.specs.Rows.{IsInRow, AreRows, IsNextRow, IsNext, MayFollow, MayHead, MayStand, HasRows}

pub twice : ℕ → ℕ
twice zero = zero
twice (suc k) = suc (suc (twice k))

pub twice_is : (k : ℕ) → twice k ≡ 2 * k
unfolding twice
twice_is zero = refl
twice_is (suc k) = omega (arith, twice_is k)

pub length-arcs_words : (arcs : List Arc) → length (arcs_words arcs) ≡ 2 * length arcs
length-arcs_words [] = refl
length-arcs_words (a ∷ arcs) = omega (arith, length-arcs_words arcs)

pub arcs_words-append : (xs ys : List Arc) → arcs_words (xs ++ ys) ≡ arcs_words xs ++ arcs_words ys
arcs_words-append xs ys = flat_map-append arc_words xs ys

head_twice : (arcs : List Arc) (k : ℕ) (d : Arc) → k < length arcs → get_or (arcs_words arcs) (twice k) 0 ≡ (get_or arcs k d).head
unfolding twice
head_twice [] k d lt = absurd (omega arith)
head_twice (a ∷ arcs) zero d lt = refl
head_twice (a ∷ arcs) (suc k) d lt = head_twice arcs k d (omega arith)

len_twice : (arcs : List Arc) (k : ℕ) (d : Arc) → k < length arcs → get_or (arcs_words arcs) (suc (twice k)) 0 ≡ (get_or arcs k d).len
unfolding twice
len_twice [] k d lt = absurd (omega arith)
len_twice (a ∷ arcs) zero d lt = refl
len_twice (a ∷ arcs) (suc k) d lt = len_twice arcs k d (omega arith)

pub arc_of : (a b : Arc) → (a.tail ≡ b.tail) → (a.head ≡ b.head) → (a.len ≡ b.len) → a ≡ b
arc_of a b t h l =
    let arc : ℕ → ℕ → ℕ → Arc = λ x y z. record { tail = x; head = y; len = z } in
    ap (λ x. arc x a.head a.len) t ∙ ap (λ y. arc b.tail y a.len) h ∙ ap (λ z. arc b.tail b.head z) l

-- a later end is no less
pub rising_le : (m : ℕ) (ends : List ℕ) → AreRising m ends → (i j : ℕ) → i + j < length ends → get_or ends i 0 ≤ get_or ends (i + j) 0
rising_le m ends h i zero lt =
    let at = ap (λ k. get_or ends k 0) (let e : i + zero ≡ i = omega arith in e) in omega (arith, at)
rising_le m ends h i (suc j) lt =
    let step = (h.rise (i + suc j) (omega arith) lt).0 in
    let before = rising_le m ends h i j (omega arith) in
    let at = ap (λ k. get_or ends k 0) (let e : i + suc j - 1 ≡ i + j = omega arith in e) in
    omega (arith, step, before, at)

pub rising_to : (m : ℕ) (ends : List ℕ) → AreRising m ends → (i j : ℕ) → i ≤ j → j < length ends → get_or ends i 0 ≤ get_or ends j 0
rising_to m ends h i j le lt =
    let e : i + (j - i) ≡ j = omega arith in
    subst (λ k. get_or ends i 0 ≤ get_or ends k 0) e (rising_le m ends h i (j - i) (omega arith))

-- an arc stands in one row
no_later : (n m : ℕ) (ends : List ℕ) → AreEnds n m ends → (k t u : ℕ) → t < u → u ≤ n → IsInRow ends k t → IsInRow ends k u → ⊥
no_later n m ends h k t u lt le at bt =
    let rise = rising_to m ends h.rising t (u - 1) (omega arith) (omega (arith, h.size)) in
    omega (arith, rise, at.1, bt.0)

pub one_row : (n m : ℕ) (ends : List ℕ) → AreEnds n m ends → (k t u : ℕ) → t ≤ n → u ≤ n → IsInRow ends k t → IsInRow ends k u → t ≡ u
one_row n m ends h k t u tn un at bt =
    ⊎_elim (λ lt. absurd (no_later n m ends h k t u lt un at bt))
    (λ ge. ⊎_elim (λ lt. absurd (no_later n m ends h k u t lt tn bt at)) (λ le. omega arith) (cases_lt u t)) (cases_lt t u)

-- The numbers are those at the front of the others.
abbrev pub Agree : List ℕ → List ℕ → Type 0
Agree these others = (i : ℕ) → i < length these → get_or these i 0 ≡ get_or others i 0

-- Rows whose numbers agree have the same arcs.
pub same_arc : (n m : ℕ) (ends : List ℕ) (xs ys : List Arc) (k : ℕ) (d e : Arc) → AreEnds n m ends → Agree (arcs_words xs) (arcs_words ys)
    → k < length xs → k < length ys → (get_or xs k d).tail ≤ n → (get_or ys k e).tail ≤ n
    → IsInRow ends k (get_or xs k d).tail → IsInRow ends k (get_or ys k e).tail → get_or xs k d ≡ get_or ys k e
same_arc n m ends xs ys k d e h agree kx ky tx ty rx ry =
    let head : (get_or xs k d).head ≡ (get_or ys k e).head
    = sym (head_twice xs k d kx) ∙ agree (twice k) (omega (arith, length-arcs_words xs, twice_is k)) ∙ head_twice ys k e ky in
    let len : (get_or xs k d).len ≡ (get_or ys k e).len
    = sym (len_twice xs k d kx) ∙ agree (suc (twice k)) (omega (arith, length-arcs_words xs, twice_is k)) ∙ len_twice ys k e ky in
    arc_of (get_or xs k d) (get_or ys k e) (one_row n m ends h k _ _ tx ty rx ry) head len

module _ (n : ℕ) (ends : List ℕ) (arcs : List Arc) (a : Arc) where
  order_more : IsInOrder arcs → (1 ≤ length arcs → IsNoGreater (get_or arcs (length arcs - 1) a) a) → IsInOrder (arcs ++ a ∷ [])
  order_more h last k d lt = ⊎_elim front back (cases_lt (k + 1) (length arcs))
    where
      size : length (arcs ++ a ∷ []) ≡ length arcs + 1
      size = length-append arcs (a ∷ [])

      front : k + 1 < length arcs → IsNoGreater (get_or (arcs ++ a ∷ []) k d) (get_or (arcs ++ a ∷ []) (k + 1) d)
      front less =
          let P : Arc → Arc → Type 0 = IsNoGreater in
          subst (λ x. P x (get_or (arcs ++ a ∷ []) (k + 1) d)) (sym (get_or_append_left arcs (a ∷ []) d k (omega arith)))
          (subst (λ x. P (get_or arcs k d) x) (sym (get_or_append_left arcs (a ∷ []) d (k + 1) less)) (h k d less))

      back : length arcs ≤ k + 1 → IsNoGreater (get_or (arcs ++ a ∷ []) k d) (get_or (arcs ++ a ∷ []) (k + 1) d)
      back ge =
          let at : length arcs ≡ k + 1 = omega (arith, size, lt) in
          let e : length arcs - 1 ≡ k = omega arith in
          let last_is : get_or arcs (length arcs - 1) a ≡ get_or (arcs ++ a ∷ []) k d
          = ap (λ i. get_or arcs i a) e ∙ get_or_default arcs k a d (omega arith) ∙ sym (get_or_append_left arcs (a ∷ []) d k (omega arith)) in
          let P : Arc → Arc → Type 0 = IsNoGreater in
          subst (λ x. P (get_or (arcs ++ a ∷ []) k d) x) (sym (get_or_push arcs a d (k + 1) at))
          (subst (λ x. P x a) last_is (last (omega arith)))

  rows_one_more : ((k : ℕ) (d : Arc) → k < length arcs → IsInRow ends k (get_or arcs k d).tail) → IsInRow ends (length arcs) a.tail
      → (k : ℕ) (d : Arc) → k < length (arcs ++ a ∷ []) → IsInRow ends k (get_or (arcs ++ a ∷ []) k d).tail
  rows_one_more h row k d lt = ⊎_elim front back (cases_lt k (length arcs))
    where
      front : k < length arcs → IsInRow ends k (get_or (arcs ++ a ∷ []) k d).tail
      front less = subst (λ x. IsInRow ends k x.tail) (sym (get_or_append_left arcs (a ∷ []) d k less)) (h k d less)

      back : length arcs ≤ k → IsInRow ends k (get_or (arcs ++ a ∷ []) k d).tail
      back ge =
          let at : length arcs ≡ k = omega (arith, length-append arcs (a ∷ []), lt) in
          subst (λ x. IsInRow ends k x.tail) (sym (get_or_push arcs a d k at)) (subst (λ i. IsInRow ends i a.tail) at row)

  -- one arc more
  pub rows_more : AreRows n ends arcs → IsNext n ends arcs a → MayStand n arcs a → AreRows n ends (arcs ++ a ∷ [])
  rows_more h next may = record {
    arcs_are = All-push (IsArc n) arcs a h.arcs_are ((next.some, next.within), (may.some, may.within), may.long);
    lengths = All-push (λ b. b.len < 2 ^ 32) arcs a h.lengths next.fits;
    order = order_more h.order may.order;
    rows = rows_one_more h.rows next.row;
  }

-- ## Numbers that came

pub words_step : (added : List Arc) (numbers : List ℕ) (i : ℕ) (a : Arc) → arcs_words added ≡ take (2 * i) numbers → 2 * i + 1 < length numbers
    → a.head ≡ get_or numbers (2 * i) 0 → a.len ≡ get_or numbers (2 * i + 1) 0 → arcs_words (added ++ a ∷ []) ≡ take (2 * (i + 1)) numbers
words_step added numbers i a e lt head len =
    arcs_words-append added (a ∷ []) ∙ ap (λ l. l ++ a.head ∷ a.len ∷ []) e
    ∙ ap (λ h. take (2 * i) numbers ++ h ∷ a.len ∷ []) head ∙ ap (λ h. take (2 * i) numbers ++ get_or numbers (2 * i) 0 ∷ h ∷ []) len
    ∙ sym (append_assoc (take (2 * i) numbers) (get_or numbers (2 * i) 0 ∷ []) (get_or numbers (2 * i + 1) 0 ∷ []))
    ∙ ap (λ l. l ++ get_or numbers (2 * i + 1) 0 ∷ []) (sym (take_more numbers (2 * i) 0 (omega arith)))
    ∙ sym (take_more numbers (2 * i + 1) 0 lt) ∙ ap (λ k. take k numbers) (let f : 2 * i + 1 + 1 ≡ 2 * (i + 1) = omega arith in f)

-- ## Texts

pub rows_first : (old : Option (List ℕ)) (s : Sum) → HasRows old old s s []
unfolding sum_on
rows_first old s = record { took = Consumes-nil old; sum = refl }

pub no_rows_yet : (n : ℕ) (ends : List ℕ) → AreRows n ends []
no_rows_yet n ends = record {
  arcs_are = All-nil (IsArc n);
  lengths = All-nil (λ a. a.len < 2 ^ 32);
  order = λ k d lt. absurd (omega arith);
  rows = λ k d lt. absurd (omega arith);
}

pub first_row : (n m : ℕ) (ends : List ℕ) → 1 ≤ n → AreEnds n m ends → IsNextRow n ends 0 1
first_row n m ends some h = record { some = omega arith; within = some; begun = omega (arith, h.rising.begin) }

pub arcs_fit : (n : ℕ) (arcs : List Arc) → n < 2 ^ 32 → All (IsArc n) arcs → All (λ a. a.len < 2 ^ 32) arcs → (i : ℕ) → get_or (arcs_words arcs) i 0 < 2 ^ 32
arcs_fit n [] fits are lens i = omega arith
arcs_fit n (a ∷ arcs) fits are lens zero = let h = (All-head (IsArc n) a arcs are).1.1 in omega (arith, h)
arcs_fit n (a ∷ arcs) fits are lens (suc zero) = All-head (λ a. a.len < 2 ^ 32) a arcs lens
arcs_fit n (a ∷ arcs) fits are lens (suc (suc i)) =
    arcs_fit n arcs fits (All-tail (IsArc n) a arcs are) (All-tail (λ a. a.len < 2 ^ 32) a arcs lens) i

-- ## What the words behind some arcs tell

-- the numbers at the front of the words of other arcs
pub agree_front : (xs ys : List ℕ) (a b : List ℕ) → xs ++ a ≡ ys ++ b → length ys ≤ length xs → Agree ys xs
agree_front xs ys a b e le i lt =
    sym (get_or_append_left ys b 0 i lt) ∙ sym (ap (λ l. get_or l i 0) e) ∙ get_or_append_left xs a 0 i (omega (arith, le, lt))

module _ (n m : ℕ) (ends : List ℕ) (arcs others : List Arc) (a : Arc) (are : AreEnds n m ends) (room : length arcs < length others)
    (h : AreRows n ends arcs) (rows : AreRows n ends others) (next : IsNext n ends arcs a) where
  other : Arc
  other = get_or others (length arcs) a

  other_is : IsArc n (get_or others (length arcs) a)
  other_is = All-get_or (IsArc n) others (length arcs) a room rows.arcs_are

  same_tail : (get_or others (length arcs) a).tail ≡ a.tail
  same_tail = one_row n m ends are (length arcs) (get_or others (length arcs) a).tail a.tail other_is.0.1 next.within (rows.rows (length arcs) a room) next.row

  before : Agree (arcs_words arcs) (arcs_words others) → 1 ≤ length arcs → get_or arcs (length arcs - 1) a ≡ get_or others (length arcs - 1) a
  before agree ge =
      let j = length arcs - 1 in
      let mine = All-get_or (IsArc n) arcs j a (omega arith) h.arcs_are in
      let theirs = All-get_or (IsArc n) others j a (omega (arith, room)) rows.arcs_are in
      same_arc n m ends arcs others j a a are agree (omega arith) (omega (arith, room)) mine.0.1 theirs.0.1
      (h.rows j a (omega arith)) (rows.rows j a (omega (arith, room)))

  follows : Agree (arcs_words arcs) (arcs_words others) → 1 ≤ length arcs
      → IsNoGreater (get_or arcs (length arcs - 1) a) (get_or others (length arcs) a)
  follows agree ge =
      let j = length arcs - 1 in
      let e : j + 1 ≡ length arcs = omega arith in
      let P : Arc → Arc → Type 0 = IsNoGreater in
      let step : P (get_or others j a) (get_or others (j + 1) a) = rows.order j a (omega (arith, room, e)) in
      subst (λ x. P x (get_or others (length arcs) a)) (sym (before agree ge)) (subst (λ i. P (get_or others j a) (get_or others i a)) e step)

  follow : (b c : Arc) → IsNoGreater b c → c.tail ≡ a.tail → c.head ≡ a.head → MayFollow b a.tail a.head
  follow b c le t e = grind arith

  agree_before : (xs : List ℕ) → Agree (arcs_words arcs ++ xs) (arcs_words others) → Agree (arcs_words arcs) (arcs_words others)
  agree_before xs agree i lt = sym (get_or_append_left (arcs_words arcs) xs 0 i lt) ∙ agree i (omega (arith, length-append (arcs_words arcs) xs, lt))

  same_head : (xs : List ℕ) → Agree (arcs_words arcs ++ (a.head ∷ xs)) (arcs_words others) → (get_or others (length arcs) a).head ≡ a.head
  same_head xs agree =
      let i = twice (length arcs) in
      let at : length (arcs_words arcs) ≡ i = omega (arith, length-arcs_words arcs, twice_is (length arcs)) in
      let within : i < length (arcs_words arcs ++ (a.head ∷ xs)) = omega (arith, length-append (arcs_words arcs) (a.head ∷ xs), at) in
      sym (head_twice others (length arcs) a room) ∙ sym (agree i within) ∙ get_or_at (arcs_words arcs) a.head xs 0 i at

  -- a head behind them that others have
  pub head_only : (xs : List ℕ) → Agree (arcs_words arcs ++ (a.head ∷ xs)) (arcs_words others) → MayHead n arcs a
  head_only xs agree =
      let same = same_head xs agree in
      record {
        some = omega (arith, same, other_is.1.0);
        within = omega (arith, same, other_is.1.1);
        order = λ ge. follow (get_or arcs (length arcs - 1) a) (get_or others (length arcs) a) (follows (agree_before (a.head ∷ xs) agree) ge) same_tail same;
      }

  -- and an arc
  pub stand_only : Agree (arcs_words arcs ++ (a.head ∷ a.len ∷ [])) (arcs_words others) → MayStand n arcs a
  stand_only agree =
      let head = head_only (a.len ∷ []) agree in
      let i = suc (twice (length arcs)) in
      let front = arcs_words arcs ++ (a.head ∷ []) in
      let at : length front ≡ i = omega (arith, length-append (arcs_words arcs) (a.head ∷ []), length-arcs_words arcs, twice_is (length arcs)) in
      let all : front ++ (a.len ∷ []) ≡ arcs_words arcs ++ (a.head ∷ a.len ∷ []) = append_assoc (arcs_words arcs) (a.head ∷ []) (a.len ∷ []) in
      let within : i < length (arcs_words arcs ++ (a.head ∷ a.len ∷ [])) = omega (arith, length-append (arcs_words arcs) (a.head ∷ a.len ∷ []), length-arcs_words arcs, twice_is (length arcs)) in
      let same_len : (get_or others (length arcs) a).len ≡ a.len
      = sym (len_twice others (length arcs) a room) ∙ sym (agree i within) ∙ sym (ap (λ l. get_or l i 0) all) ∙ get_or_at front a.len [] 0 i at in
      let is : get_or others (length arcs) a ≡ a = arc_of (get_or others (length arcs) a) a same_tail (same_head (a.len ∷ []) agree) same_len in
      record {
        some = head.some;
        within = head.within;
        long = omega (arith, same_len, other_is.2);
        order = λ ge. subst (λ x. IsNoGreater (get_or arcs (length arcs - 1) a) x) is (follows (agree_before (a.head ∷ a.len ∷ []) agree) ge);
      }

-- ## Arcs put behind others until there are m

-- in some row stands each of the arcs
find_row : (m : ℕ) (ends : List ℕ) → AreRising m ends → (k u : ℕ) → k < get_or ends u 0 → (t : ℕ) × (1 ≤ t) × (t ≤ u) × IsInRow ends k t
find_row m ends h k zero lt = absurd (omega (arith, h.begin, lt))
find_row m ends h k (suc u) lt =
    let earlier : k < get_or ends u 0 → (t : ℕ) × (1 ≤ t) × (t ≤ u) × IsInRow ends k t = λ less. find_row m ends h k u less in
    row_at (cases_lt k (get_or ends u 0)) earlier
  where
    row_at : (k < get_or ends u 0) ⊎ (get_or ends u 0 ≤ k) → (k < get_or ends u 0 → (t : ℕ) × (1 ≤ t) × (t ≤ u) × IsInRow ends k t)
        → (t : ℕ) × (1 ≤ t) × (t ≤ suc u) × IsInRow ends k t
    row_at (inl less) earlier = let found = earlier less in (found.0, found.1, omega (arith, found.2), found.3)
    row_at (inr le) earlier =
        let at = ap (λ i. get_or ends i 0) (let e : suc u - 1 ≡ u = omega arith in e) in
        (suc u, omega arith, omega arith, (omega (arith, at, le), lt))

module _ (n m : ℕ) (ends : List ℕ) (some : 1 ≤ n) (are : AreEnds n m ends) where
  -- the row of the last arc isn't behind that of the next
  tail_before : (arcs : List Arc) (t : ℕ) (d : Arc) → AreRows n ends arcs → 1 ≤ length arcs → t ≤ n → IsInRow ends (length arcs) t
      → (get_or arcs (length arcs - 1) d).tail ≤ t
  tail_before arcs t d h ge within row = ⊎_elim (λ lt. absurd (none lt)) (λ le. le) (cases_lt t (get_or arcs (length arcs - 1) d).tail)
    where
      none : t < (get_or arcs (length arcs - 1) d).tail → ⊥
      none lt =
          let j = length arcs - 1 in
          let its = h.rows j d (omega arith) in
          let vertex = (All-get_or (IsArc n) arcs j d (omega arith) h.arcs_are).0 in
          let rise = rising_to m ends are.rising t ((get_or arcs j d).tail - 1) (omega (arith, lt)) (omega (arith, are.size, vertex.1)) in
          omega (arith, rise, its.0, row.1)

  no_greater_by : (b a : Arc) → b.tail ≤ a.tail → (b.tail ≡ a.tail → b.head ≤ a.head) → b.len ≤ a.len → IsNoGreater b a
  no_greater_by b a t e l = ⊎_elim (λ lt. inl lt) (λ ge. same (omega arith)) (cases_lt b.tail a.tail)
    where
      same : b.tail ≡ a.tail → IsNoGreater b a
      same is = ⊎_elim (λ lt. inr (is, inl lt)) (λ up. inr (is, inr (heads up (e is), l))) (cases_lt b.head a.head)
        where
          heads : a.head ≤ b.head → b.head ≤ a.head → b.head ≡ a.head
          heads up down = omega arith

  -- the longest length may stand behind a head that may
  pub longest_stands : (arcs : List Arc) (a : Arc) → AreRows n ends arcs → IsNext n ends arcs a → a.len ≡ 2 ^ 32 - 1 → MayHead n arcs a → MayStand n arcs a
  longest_stands arcs a h next long may = record {
    some = may.some;
    within = may.within;
    long = omega (arith, long);
    order = λ ge.
        let j = length arcs - 1 in
        let fits = All-get_or (λ (b : Arc). b.len < 2 ^ 32) arcs j a (omega arith) h.lengths in
        let order = may.order ge in
        no_greater_by (get_or arcs j a) a (tail_before arcs a.tail a h ge next.within next.row)
        (λ same. ⊎_elim (λ lt. absurd (omega (arith, same, lt))) (λ both. both.1) order) (omega (arith, fits, long));
  }

  -- and the last vertex as its head
  pub last_heads : (arcs : List Arc) (a : Arc) → AreRows n ends arcs → IsNext n ends arcs a → a.head ≡ n → MayHead n arcs a
  last_heads arcs a h next last = record {
    some = omega (arith, last, some);
    within = omega (arith, last);
    order = λ ge.
        let j = length arcs - 1 in
        let vertex = (All-get_or (IsArc n) arcs j a (omega arith) h.arcs_are).1 in
        let le = tail_before arcs a.tail a h ge next.within next.row in
        ⊎_elim (λ lt. inl lt) (λ up. inr (omega (arith, le, up), omega (arith, vertex.1, last))) (cases_lt (get_or arcs j a).tail a.tail);
  }

  pub fill : (j : ℕ) (arcs : List Arc) → AreRows n ends arcs → length arcs + j ≡ m
      → (added : List Arc) × AreRows n ends (arcs ++ added) × (length (arcs ++ added) ≡ m)
  fill zero arcs h size = ([], subst (λ l. AreRows n ends l) (sym (append-nil arcs)) h, omega (arith, ap length (append-nil arcs), size))
  fill (suc j) arcs h size =
      let found = find_row m ends are.rising (length arcs) n (omega (arith, are.last, size)) in
      let a : Arc = record { tail = found.0; head = n; len = 2 ^ 32 - 1 } in
      let next : IsNext n ends arcs a = record { some = found.1; within = found.2; row = found.3; fits = omega arith } in
      let rows = rows_more n ends arcs a h next (longest_stands arcs a h next refl (last_heads arcs a h next refl)) in
      let rest = fill j (arcs ++ a ∷ []) rows (omega (arith, length-append arcs (a ∷ []), size)) in
      let same : (arcs ++ a ∷ []) ++ rest.0 ≡ arcs ++ (a ∷ rest.0) = append_assoc arcs (a ∷ []) rest.0 in
      (a ∷ rest.0, subst (λ l. AreRows n ends l) same rest.1, ap length (sym same) ∙ rest.2)

-- ## The greatest length, as arcs come

came : (arcs added : List Arc) → take (length (arcs ++ added) - length arcs) (drop (length arcs) (arcs ++ added)) ≡ added
came arcs added =
    let behind = drop-append_seam arcs added in
    take_all (length (arcs ++ added) - length arcs) (drop (length arcs) (arcs ++ added)) (omega (arith, ap length behind, length-append arcs added)) ∙ behind

-- where all are those before and those that came behind the first k
pub lengths_came : (all arcs added : List Arc) (k : ℕ) (a b l : Lengths) → all ≡ arcs ++ added → k ≡ length arcs → AreLengths arcs a → AreLengths (take (length all - k) (drop k all)) b → l ≡ of_both a b → AreLengths (arcs ++ added) l
lengths_came all arcs added k a b l is at before behind both =
    let same : take (length all - k) (drop k all) ≡ added = rw is (rw at (came arcs added)) in
    subst (λ m. AreLengths (arcs ++ added) m) (sym both) (lengths_both arcs added a b before (subst (λ xs. AreLengths xs b) same behind))
