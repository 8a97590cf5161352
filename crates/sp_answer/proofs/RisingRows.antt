-- Rows of trees, by rising vertex.
use Rattle.std.proofs.Common.{◌≡◌, ◌≢◌, ℕ, zero, suc, ◌+◌, ◌-◌, ◌<◌, ◌≤◌, true, List, [], ◌∷◌, ◌++◌, length, get_or, Some, Err, refl, sym, ap, ◌∙◌, add-zero, eq-eqb, ne_eqb, arith}
use Rattle.std.specs.List.{slice_get, All}
use Rattle.std.specs.List.Sorted.{IsBinarySearchResult}
use Rattle.std.specs.Ordering.{nat_cmp}
use Rattle.std.specs.declared.cmp.Ordering.TheVariants.{Equal}
use Rattle.sp_word.specs.Word.{Word, Unreached, Pair, Fits, max_dist, max_pred, is_layout}
use Rattle.sp_answer.specs.Table.{word_in, table_of, AreRows, IsTable, last_after, row_of, rows_from, tree_of, HasPredWithin}
use Rattle.sp_answer.proofs.VertexRows.{AreRising, rising_none, rising_more, above, few, equal_is, not_found, ends_at, rows-append}

-- Looking a vertex up.

are_rising : (max n last : ℕ) (rows : List (ℕ × Word)) → AreRows max n last rows → AreRising (ℕ × Word) (λ row. row.0) n last rows
are_rising max n last [] are = rising_none (ℕ × Word) (λ row. row.0) n last
are_rising max n last (row ∷ more) are = rising_more (ℕ × Word) (λ row. row.0) n last row more are.0 are.1 (are_rising max n row.0 more are.3)

pub row_found : (max n last : ℕ) (rows : List (ℕ × Word)) (i : ℕ) (d : ℕ × Word) → AreRows max n last rows → i < length rows → word_in rows (get_or rows i d).0 ≡ (get_or rows i d).1
row_found max n last [] i d are within = absurd (omega arith)
row_found max n last (row ∷ more) zero d are within = rw (eq-eqb row.0 row.0 refl) refl
row_found max n last (row ∷ more) (suc i) d are within =
    let other : row.0 ≢ (get_or more i d).0 = λ e. omega (arith, e, above (ℕ × Word) (λ row. row.0) n row.0 more i d (are_rising max n row.0 more are.3) (omega arith)) in
    rw (ne_eqb row.0 (get_or more i d).0 other) (row_found max n row.0 more i d are.3 (omega arith))

no_row : (rows : List (ℕ × Word)) (v : ℕ) (d : ℕ × Word) → ((i : ℕ) → i < length rows → (get_or rows i d).0 ≢ v) → word_in rows v ≡ Unreached
no_row [] v d others = refl
no_row (row ∷ more) v d others = rw (ne_eqb row.0 v (others 0 (omega arith))) (no_row more v d (λ i h. others (suc i) (omega arith)))

pub word_found : (max n : ℕ) (rows : List (ℕ × Word)) (v i : ℕ) (row : ℕ × Word) → AreRows max n 0 rows → i < length rows → ((d : ℕ × Word) → nat_cmp (get_or rows i d).0 v ≡ Equal) → row ≡ get_or rows i row → row.1 ≡ word_in rows v
word_found max n rows v i row are within same is =
    let key : (get_or rows i row).0 ≡ v = equal_is (get_or rows i row).0 v (same row) in
    ap (λ (r : ℕ × Word). r.1) is ∙ (sym (row_found max n 0 rows i row are within) ∙ ap (word_in rows) key)

pub word_missing : (max n : ℕ) (rows : List (ℕ × Word)) (v i : ℕ) → AreRows max n 0 rows → IsBinarySearchResult (λ (row : ℕ × Word). nat_cmp row.0 v) rows (Err i) → word_in rows v ≡ Unreached
word_missing max n rows v i are searched = no_row rows v (0, Unreached) (not_found (ℕ × Word) (λ row. row.0) n rows v i (0, Unreached) (are_rising max n 0 rows are) searched)

-- One row more.

pub more_rows : (max n last : ℕ) (rows : List (ℕ × Word)) (v d p : ℕ) → AreRows max n last rows → last_after last rows < v → v ≤ n → d ≤ max → p ≤ n → AreRows max n last (rows ++ (v, Pair d p) ∷ [])
more_rows max n last [] v d p are higher most dist pred = (higher, most, (dist, pred), tt)
more_rows max n last (row ∷ more) v d p are higher most dist pred = (are.0, are.1, are.2, more_rows max n row.0 more v d p are.3 higher most dist pred)

pub last_is : (last : ℕ) (rows : List (ℕ × Word)) (row : ℕ × Word) → 0 < length rows → row ≡ get_or rows (length rows - 1) row → row.0 ≡ last_after last rows
last_is last rows row some is = ends_at (ℕ × Word) (λ row. row.0) last_after (λ l. refl) (λ l r more. refl) last rows row some is

-- No more rows than vertices.
pub few_rows : (max n last : ℕ) (rows : List (ℕ × Word)) → last ≤ n → AreRows max n last rows → length rows + last ≤ n
few_rows max n last rows le are = few (ℕ × Word) (λ row. row.0) n last rows le (are_rising max n last rows are)

-- The rows of words.

pub rows_from-append : (v : ℕ) (xs ys : List Word) → rows_from v (xs ++ ys) ≡ rows_from v xs ++ rows_from (v + length xs) ys
rows_from-append v xs ys = rows-append (ℕ × Word) row_of rows_from (λ v. refl) (λ v w words. refl) v xs ys

-- The word fits its layout, and its predecessor is at most n.
HasBoth : (P n : ℕ) → Word → Type 0
HasBoth P n word = Fits P word × HasPredWithin n word

from_words : (P n v last : ℕ) (words : List Word) → last < v → v + length words ≤ n + 1 → ((k : ℕ) → k < length words → HasBoth P n (get_or words k Unreached)) → AreRows (max_dist P) n last (rows_from v words)
unfolding HasBoth
from_words P n v last [] below within both = tt
from_words P n v last (Unreached ∷ more) below within both = from_words P n (v + 1) last more (omega arith) (omega arith) (λ k h. both (suc k) (omega arith))
from_words P n v last (Pair d p ∷ more) below within both =
    let first = both 0 (omega arith) in
    (below, omega arith, (first.0.0, first.1), from_words P n (v + 1) v more (omega arith) (omega arith) (λ k h. both (suc k) (omega arith)))

pub tree_is_table : (P n source : ℕ) (words : List Word) (rows : List (ℕ × Word)) → is_layout P ≡ true → 1 ≤ length words → length words ≤ max_pred P → 1 ≤ source → source ≤ length words → n ≡ length words → rows ≡ rows_from 1 words
    → All (HasPredWithin (length words)) words → All (Fits P) words → IsTable P (record { n = n; source = source; rows = rows })
unfolding HasBoth
tree_is_table P n source words rows layout least most source_least source_most n_is rows_are preds fits = record {
  layout = layout;
  least = omega (arith, n_is);
  most = omega (arith, n_is);
  source_least = source_least;
  source_most = omega (arith, n_is);
  rows = rw (n_is, rows_are) (from_words P (length words) 1 0 words (omega arith) (omega arith) (λ k h. (fits k Unreached h, preds k Unreached h)));
}

-- Each vertex has its word.

lower : (v u : ℕ) (words : List Word) → u < v → word_in (rows_from v words) u ≡ Unreached
lower v u [] below = refl
lower v u (Unreached ∷ more) below = lower (v + 1) u more (omega arith)
lower v u (Pair d p ∷ more) below = let other : v ≢ u = λ e. omega (arith, e) in rw (ne_eqb v u other) (lower (v + 1) u more (omega arith))

first_word : (v : ℕ) (word : Word) (more : List Word) → word_in (rows_from v (word ∷ more)) v ≡ word
first_word v Unreached more = lower (v + 1) v more (omega arith)
first_word v (Pair d p) more = rw (eq-eqb v v refl) refl

later_word : (v u : ℕ) (word : Word) (more : List Word) → v ≢ u → word_in (rows_from v (word ∷ more)) u ≡ word_in (rows_from (v + 1) more) u
later_word v u Unreached more other = refl
later_word v u (Pair d p) more other = rw (ne_eqb v u other) refl

word_at : (v i : ℕ) (words : List Word) → i < length words → slice_get words i ≡ Some (word_in (rows_from v words) (v + i))
word_at v i [] within = absurd (omega arith)
word_at v zero (word ∷ more) within = rw (add-zero v) (ap (λ (w : Word). Some w) (sym (first_word v word more)))
word_at v (suc i) (word ∷ more) within =
    let other : v ≢ v + suc i = λ e. omega (arith, e) in
    let next : v + 1 + i ≡ v + suc i = omega arith in
    word_at (v + 1) i more (omega arith) ∙ ap (λ (w : Word). Some w) (ap (word_in (rows_from (v + 1) more)) next ∙ sym (later_word v (v + suc i) word more other))

pub words_are : (source : ℕ) (words : List Word) (v : ℕ) → 1 ≤ v → v ≤ length words → slice_get words (v - 1) ≡ Some (table_of (tree_of source words) v)
words_are source words v least most =
    let same : 1 + (v - 1) ≡ v = omega arith in
    word_at 1 (v - 1) words (omega arith) ∙ ap (λ (u : ℕ). Some (word_in (rows_from 1 words) u)) same

pub row_added : (P n source : ℕ) (rows new : List (ℕ × Word)) (v d p : ℕ) (word : Word) → IsTable P (record { n = n; source = source; rows = rows }) → last_after 0 rows < v → v ≤ n → d ≤ max_dist P → p ≤ n → word ≡ Pair d p → new ≡ rows ++ (v, word) ∷ []
    → IsTable P (record { n = n; source = source; rows = new })
row_added P n source rows new v d p word h higher most dist pred is pushed = record {
  layout = h.layout;
  least = h.least;
  most = h.most;
  source_least = h.source_least;
  source_most = h.source_most;
  rows = rw (pushed, is) (more_rows (max_dist P) n 0 rows v d p h.rows higher most dist pred);
}
