-- Rows of forests, by rising vertex.
use Rattle.std.proofs.Common.{inl, inr, ◌≡◌, ◌≢◌, ℕ, zero, suc, ◌+◌, ◌-◌, ◌<◌, ◌≤◌, true, List, [], ◌∷◌, ◌++◌, length, get_or, Option, Some, None, Err, refl, sym, ap, subst, ◌∙◌, add-zero, eq-eqb, ne_eqb, arith}
use Rattle.std.specs.List.{All}
use Rattle.std.specs.List.Sorted.{IsBinarySearchResult}
use Rattle.std.specs.Ordering.{nat_cmp}
use Rattle.std.specs.declared.cmp.Ordering.TheVariants.{Equal}
use Rattle.sp_word.specs.Word.{Word, Unreached, Pair, Fits, max_dist, max_pred, is_layout}
use Rattle.sp_paths.specs.Paths.{IsVertex, word_at}
use Rattle.sp_paths.specs.Roots.{IsRoot, IsRootOrNone, FallsBack, IsBackStep}
use Rattle.sp_answer.specs.Table.{HasPredWithin}
use Rattle.sp_answer.specs.ForestTable.{Row, row_in, word_of, root_in, AreRows, IsForestTable, rows_from, last_after}
use Rattle.sp_answer.specs.Rooted.{AreRoots, HoldsWords, HoldsRoots, root_at}
use Rattle.sp_answer.proofs.RootSteps.{root_vertex}
use Rattle.sp_answer.proofs.VertexRows.{AreRising, rising_none, rising_more, above, few, equal_is, not_found, ends_at}

-- ## Looking a vertex up

are_rising : (max n last : ℕ) (rows : List Row) → AreRows max n last rows → AreRising Row (λ row. row.0) n last rows
are_rising max n last [] are = rising_none Row (λ row. row.0) n last
are_rising max n last (row ∷ more) are = rising_more Row (λ row. row.0) n last row more are.0 are.1 (are_rising max n row.0 more are.4)

found_at : (max n last : ℕ) (rows : List Row) (i : ℕ) (d : Row) → AreRows max n last rows → i < length rows → row_in rows (get_or rows i d).0 ≡ Some (get_or rows i d)
found_at max n last [] i d are within = absurd (omega arith)
found_at max n last (row ∷ more) zero d are within = rw (eq-eqb row.0 row.0 refl) refl
found_at max n last (row ∷ more) (suc i) d are within =
    let other : row.0 ≢ (get_or more i d).0 = λ e. omega (arith, e, above Row (λ row. row.0) n row.0 more i d (are_rising max n row.0 more are.4) (omega arith)) in
    rw (ne_eqb row.0 (get_or more i d).0 other) (found_at max n row.0 more i d are.4 (omega arith))

no_row : (rows : List Row) (v : ℕ) (d : Row) → ((i : ℕ) → i < length rows → (get_or rows i d).0 ≢ v) → row_in rows v ≡ None
no_row [] v d others = refl
no_row (row ∷ more) v d others = rw (ne_eqb row.0 v (others 0 (omega arith))) (no_row more v d (λ i h. others (suc i) (omega arith)))

pub row_found : (max n : ℕ) (rows : List Row) (v i : ℕ) (row : Row) → AreRows max n 0 rows → i < length rows → ((d : Row) → nat_cmp (get_or rows i d).0 v ≡ Equal) → row ≡ get_or rows i row → row_in rows v ≡ Some row
row_found max n rows v i row are within same is =
    let key : (get_or rows i row).0 ≡ v = equal_is (get_or rows i row).0 v (same row) in
    ap (row_in rows) (sym key) ∙ found_at max n 0 rows i row are within ∙ ap (λ (r : Row). Some r) (sym is)

pub row_missing : (max n : ℕ) (rows : List Row) (v i : ℕ) → AreRows max n 0 rows → IsBinarySearchResult (λ (row : Row). nat_cmp row.0 v) rows (Err i) → row_in rows v ≡ None
row_missing max n rows v i are searched = no_row rows v (0, Unreached, 0) (not_found Row (λ row. row.0) n rows v i (0, Unreached, 0) (are_rising max n 0 rows are) searched)

-- ## One row more

more_rows : (max n last : ℕ) (rows : List Row) (v d p r : ℕ) → AreRows max n last rows → last_after last rows < v → v ≤ n → d ≤ max → p ≤ n → IsVertex n r → AreRows max n last (rows ++ (v, Pair d p, r) ∷ [])
more_rows max n last [] v d p r are higher most dist pred root = (higher, most, (dist, pred), root, tt)
more_rows max n last (row ∷ more) v d p r are higher most dist pred root = (are.0, are.1, are.2, are.3, more_rows max n row.0 more v d p r are.4 higher most dist pred root)

pub row_added : (P n : ℕ) (rows new : List Row) (v d p r : ℕ) (word : Word) → IsForestTable P (record { n = n; rows = rows }) → last_after 0 rows < v → v ≤ n → d ≤ max_dist P → p ≤ n → IsVertex n r → word ≡ Pair d p → new ≡ rows ++ (v, word, r) ∷ []
    → IsForestTable P (record { n = n; rows = new })
row_added P n rows new v d p r word h higher most dist pred root is pushed = record {
  layout = h.layout;
  most = h.most;
  rows = rw (pushed, is) (more_rows (max_dist P) n 0 rows v d p r h.rows higher most dist pred root);
}

pub last_is : (last : ℕ) (rows : List Row) (row : Row) → 0 < length rows → row ≡ get_or rows (length rows - 1) row → row.0 ≡ last_after last rows
last_is last rows row some is = ends_at Row (λ row. row.0) last_after (λ l. refl) (λ l r more. refl) last rows row some is

-- No more rows than vertices.
pub few_rows : (max n last : ℕ) (rows : List Row) → last ≤ n → AreRows max n last rows → length rows + last ≤ n
few_rows max n last rows le are = few Row (λ row. row.0) n last rows le (are_rising max n last rows are)

-- ## The rows of words

-- the row of a vertex with this root and word
row_for : (v r : ℕ) → Word → Option Row
row_for v r Unreached = None
row_for v r (Pair d p) = Some (v, Pair d p, r)

word_for : (v r : ℕ) (w : Word) → word_of (row_for v r w) ≡ w
unfolding row_for
word_for v r Unreached = refl
word_for v r (Pair d p) = refl

root_for : (v r : ℕ) (w : Word) (d p : ℕ) → w ≡ Pair d p → root_in (row_for v r w) ≡ Some r
unfolding row_for
root_for v r Unreached d p is = cc
root_for v r (Pair e q) d p is = refl

-- the root of a reached vertex is a vertex
IsRooted : (n r : ℕ) → Word → Type 0
IsRooted n r Unreached = Unit {0}
IsRooted n r (Pair d p) = IsVertex n r

-- The word fits its layout, its predecessor is at most n, and its root is a vertex.
HasAll : (P n r : ℕ) → Word → Type 0
HasAll P n r word = Fits P word × HasPredWithin n word × IsRooted n r word

module _ (root : ℕ → ℕ) where
  from_words : (P n v last : ℕ) (words : List Word) → last < v → v + length words ≤ n + 1 → ((k : ℕ) → k < length words → HasAll P n (root (v + k)) (get_or words k Unreached)) → AreRows (max_dist P) n last (rows_from root v words)
  unfolding HasAll IsRooted
  from_words P n v last [] below within all = tt
  from_words P n v last (Unreached ∷ more) below within all =
      from_words P n (v + 1) last more (omega arith) (omega arith) (λ k h. (let next : v + suc k ≡ v + 1 + k = omega arith in subst (λ u. HasAll P n (root u) (get_or more k Unreached)) next (all (suc k) (omega arith))))
  from_words P n v last (Pair d p ∷ more) below within all =
      let first : HasAll P n (root v) (Pair d p) = subst (λ u. HasAll P n (root u) (Pair d p)) (add-zero v) (all 0 (omega arith)) in (
        below,
        omega arith,
        (first.0.0, first.1),
        first.2,
        from_words P n (v + 1) v more (omega arith) (omega arith) (λ k h. (let next : v + suc k ≡ v + 1 + k = omega arith in subst (λ u. HasAll P n (root u) (get_or more k Unreached)) next (all (suc k) (omega arith)))),
      )

  -- each vertex has its row

  lower : (v u : ℕ) (words : List Word) → u < v → row_in (rows_from root v words) u ≡ None
  lower v u [] below = refl
  lower v u (Unreached ∷ more) below = lower (v + 1) u more (omega arith)
  lower v u (Pair d p ∷ more) below = let other : v ≢ u = λ e. omega (arith, e) in rw (ne_eqb v u other) (lower (v + 1) u more (omega arith))

  first_row : (v : ℕ) (word : Word) (more : List Word) → row_in (rows_from root v (word ∷ more)) v ≡ row_for v (root v) word
  unfolding row_for
  first_row v Unreached more = lower (v + 1) v more (omega arith)
  first_row v (Pair d p) more = rw (eq-eqb v v refl) refl

  later_row : (v u : ℕ) (word : Word) (more : List Word) → v ≢ u → row_in (rows_from root v (word ∷ more)) u ≡ row_in (rows_from root (v + 1) more) u
  later_row v u Unreached more other = refl
  later_row v u (Pair d p) more other = rw (ne_eqb v u other) refl

  row_at : (v i : ℕ) (words : List Word) → i < length words → row_in (rows_from root v words) (v + i) ≡ row_for (v + i) (root (v + i)) (get_or words i Unreached)
  row_at v i [] within = absurd (omega arith)
  row_at v zero (word ∷ more) within = rw (add-zero v) (first_row v word more)
  row_at v (suc i) (word ∷ more) within =
      let other : v ≢ v + suc i = λ e. omega (arith, e) in
      let next : v + 1 + i ≡ v + suc i = omega arith in
      later_row v (v + suc i) word more other ∙ subst (λ u. row_in (rows_from root (v + 1) more) u ≡ row_for u (root u) (get_or more i Unreached)) next (row_at (v + 1) i more (omega arith))

  vertex_row : (words : List Word) (v : ℕ) → IsVertex (length words) v → row_in (rows_from root 1 words) v ≡ row_for v (root v) (word_at words v)
  vertex_row words v at =
      let low = at.0 in
      let high = at.1 in
      let same : 1 + (v - 1) ≡ v = omega arith in
      subst (λ u. row_in (rows_from root 1 words) u ≡ row_for u (root u) (word_at words v)) same (row_at 1 (v - 1) words (omega arith))

-- ## Forests

module _ (words : List Word) (roots : List ℕ) (are : AreRoots words roots) where
  module _ (falls : FallsBack (length words) (word_at words)) where
    pred_within : (d p : ℕ) → IsBackStep (length words) (word_at words) d p → p ≤ length words
    pred_within d p (inl own) = omega (arith, own.1)
    pred_within d p (inr more) = more.1.1

    has_all : (P v : ℕ) → IsVertex (length words) v → (w : Word) → word_at words v ≡ w → Fits P w → HasAll P (length words) (root_at roots v) w
    unfolding HasAll IsRooted
    has_all P v at Unreached is fits = (fits, tt, tt)
    has_all P v at (Pair d p) is fits =
        let root : IsRoot (word_at words) v (root_at roots v) = subst (IsRootOrNone (word_at words) v (root_at roots v)) is (are.each v at) in
        (fits, pred_within d p (falls v d p at is), root_vertex (length words) (word_at words) falls root.0 v (root_at roots v) at root.1)

    pub forest_is_table : (P n : ℕ) (rows : List Row) → is_layout P ≡ true → length words ≤ max_pred P → n ≡ length words → rows ≡ rows_from (root_at roots) 1 words → All (Fits P) words → IsForestTable P (record { n = n; rows = rows })
    forest_is_table P n rows layout most n_is rows_are fits = record {
      layout = layout;
      most = omega (arith, n_is);
      rows = rw (n_is, rows_are) (from_words (root_at roots) P (length words) 1 0 words (omega arith) (omega arith) (λ k h. (let there : 1 + k - 1 ≡ k = omega arith in
          has_all P (1 + k) (omega arith, omega arith) (get_or words k Unreached) (ap (λ i. get_or words i Unreached) there) (fits k Unreached h))));
    }

  pub holds_words : (n : ℕ) (rows : List Row) → rows ≡ rows_from (root_at roots) 1 words → HoldsWords words (record { n = n; rows = rows })
  holds_words n rows is v at = ap (λ (rows : List Row). word_of (row_in rows v)) is ∙ ap word_of (vertex_row (root_at roots) words v at) ∙ word_for v (root_at roots v) (word_at words v)

  pub holds_roots : (n : ℕ) (rows : List Row) → rows ≡ rows_from (root_at roots) 1 words → HoldsRoots words (record { n = n; rows = rows })
  holds_roots n rows is v d p at word = (
    root_at roots v,
    ap (λ (rows : List Row). root_in (row_in rows v)) is ∙ ap root_in (vertex_row (root_at roots) words v at) ∙ root_for v (root_at roots v) (word_at words v) d p word,
    subst (IsRootOrNone (word_at words) v (root_at roots v)) word (are.each v at),
  )
