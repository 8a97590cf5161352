-- The rows of a tree as words by vertex.
use Rattle.std.proofs.Common.{◌≡◌, ℕ, zero, suc, ◌+◌, ◌-◌, ◌<◌, ◌≤◌, ◌⊎◌, inl, inr, true, false, eqb, List, [], ◌∷◌, ◌++◌, length, get_or, take, length-set, sym, refl, ap, ◌∙◌, subst, arith}
use Rattle.std.specs.Prelude.{slice_set}
use Rattle.std.proofs.lemmas.Bool.{cases_eq, eq-eqb, ne_eqb, cond-true, cond-false, cases_Bool}
use Rattle.std.proofs.lemmas.List.{take_more, get_or-set_other, get_or-set_same}
use Rattle.sp_word.specs.Word.{Word, Unreached, Pair, max_dist}
use Rattle.sp_paths.specs.Paths.{IsVertex, IsWithin, word_at}
use Rattle.sp_answer.specs.Table.{TreeTable, word_in, table_of, AreRows, IsPairWithin, IsTable}

-- ## One row more

-- every vertex of the rows is below v
abbrev Below : ℕ → List (ℕ × Word) → Type 0
Below v [] = Unit {0}
Below v (row ∷ more) = (row.0 < v) × Below v more

push_other : (rows : List (ℕ × Word)) (row : ℕ × Word) (v : ℕ) → (row.0 ≡ v → ⊥) → word_in (rows ++ row ∷ []) v ≡ word_in rows v
push_other [] row v other = cond-false (eqb row.0 v) row.1 Unreached (ne_eqb row.0 v other)
push_other (r ∷ rows) row v other = go (cases_Bool (eqb r.0 v)) (push_other rows row v other)
  where
    go : (eqb r.0 v ≡ true) ⊎ (eqb r.0 v ≡ false) → word_in (rows ++ row ∷ []) v ≡ word_in rows v → word_in (r ∷ rows ++ row ∷ []) v ≡ word_in (r ∷ rows) v
    go (inl t) rest = cond-true (eqb r.0 v) r.1 (word_in (rows ++ row ∷ []) v) t ∙ sym (cond-true (eqb r.0 v) r.1 (word_in rows v) t)
    go (inr f) rest = cond-false (eqb r.0 v) r.1 (word_in (rows ++ row ∷ []) v) f ∙ (rest ∙ sym (cond-false (eqb r.0 v) r.1 (word_in rows v) f))

push_here : (rows : List (ℕ × Word)) (row : ℕ × Word) → Below row.0 rows → word_in (rows ++ row ∷ []) row.0 ≡ row.1
push_here [] row h = cond-true (eqb row.0 row.0) row.1 Unreached (eq-eqb row.0 row.0 refl)
push_here (r ∷ rows) row h = cond-false (eqb r.0 row.0) r.1 (word_in (rows ++ row ∷ []) row.0) (ne_eqb r.0 row.0 (λ e. omega (arith, h.0))) ∙ push_here rows row h.1

-- the rows before a row are below it
above_last : (max n last : ℕ) (rows : List (ℕ × Word)) → AreRows max n last rows → (i : ℕ) (d : ℕ × Word) → i < length rows → last < (get_or rows i d).0
above_last max n last [] h i d lt = absurd (omega arith)
above_last max n last (r ∷ rows) h zero d lt = h.0
above_last max n last (r ∷ rows) h (suc i) d lt = omega (arith, h.0, above_last max n r.0 rows h.3 i d (omega arith))

taken_below : (max n last : ℕ) (rows : List (ℕ × Word)) → AreRows max n last rows → (i : ℕ) (d : ℕ × Word) → i < length rows → Below (get_or rows i d).0 (take i rows)
taken_below max n last [] h i d lt = absurd (omega arith)
taken_below max n last (r ∷ rows) h zero d lt = tt
taken_below max n last (r ∷ rows) h (suc i) d lt = (above_last max n r.0 rows h.3 i d (omega arith), taken_below max n r.0 rows h.3 i d (omega arith))

-- a row's vertex is one of the tree
row_vertex : (max n last : ℕ) (rows : List (ℕ × Word)) → AreRows max n last rows → (i : ℕ) (d : ℕ × Word) → i < length rows → IsVertex n (get_or rows i d).0
row_vertex max n last [] h i d lt = absurd (omega arith)
row_vertex max n last (r ∷ rows) h zero d lt = (omega (arith, h.0), h.1)
row_vertex max n last (r ∷ rows) h (suc i) d lt = row_vertex max n r.0 rows h.3 i d (omega arith)

-- ## The copy

-- the words of the first rows
pub record IsCopied (n : ℕ) (rows : List (ℕ × Word)) (words : List Word) : Type 0 where
  pub size : length words ≡ n
  pub each : (v : ℕ) → IsVertex n v → word_at words v ≡ word_in rows v

module _ (P : ℕ) (t : TreeTable) (table : IsTable P t) (rows : List (ℕ × Word)) (same : rows ≡ t.rows) (i : ℕ) (row : ℕ × Word) (lt : i < length rows) (is : row ≡ get_or rows i row) where
  rising : AreRows (max_dist P) t.n 0 rows
  rising = rw same table.rows

  pub row_in : IsVertex t.n row.0
  row_in = subst (λ r. IsVertex t.n r.0) (sym is) (row_vertex (max_dist P) t.n 0 rows rising i row lt)

  below : Below row.0 (take i rows)
  below = subst (λ r. Below r.0 (take i rows)) (sym is) (taken_below (max_dist P) t.n 0 rows rising i row lt)

  next : take (i + 1) rows ≡ take i rows ++ row ∷ []
  next = take_more rows i row lt ∙ ap (λ x. take i rows ++ x ∷ []) (sym is)

  module _ (words : List Word) (h : IsCopied t.n (take i rows) words) where
    one_more : (v : ℕ) → IsVertex t.n v → (v ≡ row.0) ⊎ (v ≡ row.0 → ⊥) → word_at (slice_set words (row.0 - 1) row.1) v ≡ word_in (take i rows ++ row ∷ []) v
    one_more v k (inl here) =
        let set' : word_at (slice_set words (row.0 - 1) row.1) row.0 ≡ row.1 = get_or-set_same words (row.0 - 1) row.1 Unreached (omega (arith, row_in, h.size)) in
        rw here (set' ∙ sym (push_here (take i rows) row below))
    one_more v k (inr other) =
        get_or-set_other words (row.0 - 1) (v - 1) row.1 Unreached (λ e. other (omega (arith, row_in, k)))
        ∙ (h.each v k ∙ sym (push_other (take i rows) row v (λ e. other (sym e))))

    pub copied_more : IsCopied t.n (take (i + 1) rows) (slice_set words (row.0 - 1) row.1)
    copied_more = record { size = length-set words (row.0 - 1) row.1 ∙ h.size; each = λ v k. rw next (one_more v k (cases_eq v row.0)) }

-- ## The limits of a tree's words

dist_in_rows : (max n last : ℕ) (rows : List (ℕ × Word)) → AreRows max n last rows → (v d p : ℕ) → word_in rows v ≡ Pair d p → d ≤ max
dist_in_rows max n last [] h v d p e = absurd (cc)
dist_in_rows max n last (r ∷ rows) h v d p e = go (cases_Bool (eqb r.0 v)) (dist_in_rows max n r.0 rows h.3 v d p)
  where
    within : (w : Word) → IsPairWithin max n w → w ≡ Pair d p → d ≤ max
    within Unreached k is = absurd k
    within (Pair c q) k is = let same : c ≡ d = cc in omega (arith, k.0)

    go : (eqb r.0 v ≡ true) ⊎ (eqb r.0 v ≡ false) → (word_in rows v ≡ Pair d p → d ≤ max) → d ≤ max
    go (inl t) rest = within r.1 h.2 (sym (cond-true (eqb r.0 v) r.1 (word_in rows v) t) ∙ e)
    go (inr f) rest = rest (sym (cond-false (eqb r.0 v) r.1 (word_in rows v) f) ∙ e)

pub table_within : (P : ℕ) (t : TreeTable) → IsTable P t → (n : ℕ) → IsWithin n (max_dist P) (table_of t)
table_within P t table n v d p k e = dist_in_rows (max_dist P) t.n 0 t.rows table.rows v d p e
