-- Rows by rising vertex, whatever they hold: a word, or a word and a root.
use Rattle.std.proofs.Common.{⊎_elim, ◌≡◌, ◌≢◌, ℕ, zero, suc, ◌+◌, ◌-◌, ◌<◌, ◌≤◌, List, [], ◌∷◌, ◌++◌, length, take, get_or, Err, refl, sym, ap, ◌∙◌, append_assoc, length-take, add-zero, arith, tests}
use Rattle.std.proofs.lemmas.Bool.{cases_lt}
use Rattle.std.proofs.lemmas.List.{append-nil, take_more}
use Rattle.std.proofs.lemmas.List.Elements.{All-more}
use Rattle.std.specs.List.{All}
use Rattle.std.specs.List.Sorted.{IsBinarySearchResult}
use Rattle.std.specs.Ordering.{ordering_index, nat_cmp}
use Rattle.std.specs.declared.cmp.Ordering.TheVariants.{Less, Equal, Greater}
use Rattle.sp_word.specs.Word.{Word, Fits}

pub equal_is : (a b : ℕ) → nat_cmp a b ≡ Equal → a ≡ b
equal_is a b h = grind (arith, tests)

less_is : (a b : ℕ) → nat_cmp a b ≡ Less → a < b
less_is a b h = grind (arith, tests)

greater_is : (a b : ℕ) → nat_cmp a b ≡ Greater → b < a
greater_is a b h = grind (arith, tests)

higher : (a b x : ℕ) → a ≤ b → ordering_index (nat_cmp a x) ≤ ordering_index (nat_cmp b x)
higher a b x le = grind (arith, tests)

-- ## Rising vertices

module _ (R : Type 0) (key : R → ℕ) where
  -- the vertices of the rows rise, above `last` and up to `n`
  pub AreRising : (n last : ℕ) → List R → Type 0
  AreRising n last [] = Unit {0}
  AreRising n last (row ∷ more) = (last < key row) × (key row ≤ n) × AreRising n (key row) more

  pub rising_none : (n last : ℕ) → AreRising n last []
  unfolding AreRising
  rising_none n last = tt

  pub rising_more : (n last : ℕ) (row : R) (more : List R) → last < key row → key row ≤ n → AreRising n (key row) more → AreRising n last (row ∷ more)
  unfolding AreRising
  rising_more n last row more above below rest = (above, below, rest)

  pub above : (n last : ℕ) (rows : List R) (i : ℕ) (d : R) → AreRising n last rows → i < length rows → last < key (get_or rows i d)
  unfolding AreRising
  above n last [] i d are within = absurd (omega arith)
  above n last (row ∷ more) zero d are within = are.0
  above n last (row ∷ more) (suc i) d are within = omega (arith, are.0, above n (key row) more i d are.2 (omega arith))

  rising : (n last : ℕ) (rows : List R) (i j : ℕ) (d : R) → AreRising n last rows → i ≤ j → j < length rows → key (get_or rows i d) ≤ key (get_or rows j d)
  unfolding AreRising
  rising n last [] i j d are le within = absurd (omega arith)
  rising n last (row ∷ more) zero zero d are le within = omega arith
  rising n last (row ∷ more) zero (suc j) d are le within = omega (arith, above n (key row) more j d are.2 (omega arith))
  rising n last (row ∷ more) (suc i) zero d are le within = absurd (omega arith)
  rising n last (row ∷ more) (suc i) (suc j) d are le within = rising n (key row) more i j d are.2 (omega arith) (omega arith)

  -- no more rows than vertices
  pub few : (n last : ℕ) (rows : List R) → last ≤ n → AreRising n last rows → length rows + last ≤ n
  unfolding AreRising
  few n last [] le are = omega arith
  few n last (row ∷ more) le are = omega (arith, are.0, few n (key row) more are.1 are.2)

  -- where a search finds no row, no row is of the vertex
  pub not_found : (n : ℕ) (rows : List R) (v i : ℕ) (d : R) → AreRising n 0 rows → IsBinarySearchResult (λ (row : R). nat_cmp (key row) v) rows (Err i) → (k : ℕ) → k < length rows → key (get_or rows k d) ≢ v
  not_found n rows v i d are searched k h e =
      let parted = searched (λ a b d le lt. higher (key (get_or rows a d)) (key (get_or rows b d)) v (rising n 0 rows a b d are le lt)) in
      ⊎_elim
      (λ (l : k < i). omega (arith, less_is (key (get_or rows k d)) v (parted.0 k d (omega arith) l), e))
      (λ (l : i ≤ k). omega (arith, greater_is (key (get_or rows k d)) v (parted.1 k d l h), e))
      (cases_lt k i)

  -- the vertex of the last row
  pub ends_at : (end : ℕ → List R → ℕ) → ((last : ℕ) → end last [] ≡ last) → ((last : ℕ) (row : R) (more : List R) → end last (row ∷ more) ≡ end (key row) more)
      → (last : ℕ) (rows : List R) (row : R) → 0 < length rows → row ≡ get_or rows (length rows - 1) row → key row ≡ end last rows
  ends_at end none one last [] row some is = absurd (omega arith)
  ends_at end none one last (x ∷ []) row some is = ap key is ∙ sym (one last x [] ∙ none (key x))
  ends_at end none one last (x ∷ y ∷ more) row some is =
      let at : length (x ∷ y ∷ more) - 1 ≡ suc (length (y ∷ more) - 1) = omega arith in
      ends_at end none one (key x) (y ∷ more) row (omega arith) (is ∙ ap (λ (i : ℕ). get_or (x ∷ y ∷ more) i row) at) ∙ sym (one last x (y ∷ more))

-- ## The rows of words

-- the rows of `vertex`, `vertex + 1` and so on, given what a word adds for its vertex
module _ (X : Type 0) (row : ℕ → Word → List X) (rows : ℕ → List Word → List X) (none : (v : ℕ) → rows v [] ≡ []) (more : (v : ℕ) (w : Word) (words : List Word) → rows v (w ∷ words) ≡ row v w ++ rows (v + 1) words) where
  pub rows-append : (v : ℕ) (xs ys : List Word) → rows v (xs ++ ys) ≡ rows v xs ++ rows (v + length xs) ys
  rows-append v [] ys = ap (λ (u : ℕ). rows u ys) (sym (add-zero v)) ∙ sym (ap (λ (t : List X). t ++ rows (v + 0) ys) (none v))
  rows-append v (x ∷ xs) ys =
      let next : v + 1 + length xs ≡ v + suc (length xs) = omega arith in
      more v x (xs ++ ys)
      ∙ ap (λ (t : List X). row v x ++ t) (rows-append (v + 1) xs ys ∙ ap (λ (u : ℕ). rows (v + 1) xs ++ rows u ys) next)
      ∙ sym (append_assoc (row v x) (rows (v + 1) xs) (rows (v + suc (length xs)) ys))
      ∙ sym (ap (λ (t : List X). t ++ rows (v + suc (length xs)) ys) (more v x xs))

  pub rows_more : (words : List Word) (i : ℕ) (x : Word) → i < length words → x ≡ get_or words i x → rows 1 (take (i + 1) words) ≡ rows 1 (take i words) ++ row (i + 1) x
  rows_more words i x within is =
      let vertex : 1 + length (take i words) ≡ i + 1 = omega (arith, length-take i words) in
      let last : (v : ℕ) (w : Word) → rows v (w ∷ []) ≡ row v w = λ v w. more v w [] ∙ ap (λ (t : List X). row v w ++ t) (none (v + 1)) ∙ append-nil (row v w) in
      ap (rows 1) (take_more words i x within)
      ∙ (rows-append 1 (take i words) (get_or words i x ∷ []) ∙ ap (λ (t : List X). rows 1 (take i words) ++ t) (last (1 + length (take i words)) (get_or words i x) ∙ rw (vertex, ← is) refl))

  -- the list has the rows of the first words, and these fit their layout
  abbrev pub AreTaken : (P : ℕ) (words : List Word) (i : ℕ) (list : List X) → Type 0
  AreTaken P words i list = (list ≡ rows 1 (take i words)) × All (Fits P) (take i words)

  pub row_taken : (P : ℕ) (words : List Word) (i : ℕ) (x : Word) (list new : List X) → i < length words → x ≡ get_or words i x → AreTaken P words i list → new ≡ list ++ row (i + 1) x → Fits P x → AreTaken P words (i + 1) new
  row_taken P words i x list new within is before pushed fits = (
    pushed ∙ (ap (λ (t : List X). t ++ row (i + 1) x) before.0 ∙ sym (rows_more words i x within is)),
    All-more (Fits P) words i x within before.1 (rw (← is) fits),
  )
