-- Cells and roots that are written row by row, from the last row to the first.
use Rattle.std.proofs.Common.{◌≡◌, ◌<◌, ◌≤◌, ◌+◌, ◌-◌, ◌⊎◌, inl, inr, ℕ, zero, suc, List, [], ◌∷◌, length, drop, get_or, Option, Some, refl, sym, ap, ◌∙◌, subst, eq-eqb, ne_eqb, drop-cons, arith}
use Rattle.std.specs.Prelude.{slice_get, slice_set, slice_index, slice_index_or}
use Rattle.std.proofs.lemmas.Option.{slice_get_within}
use Rattle.std.proofs.lemmas.Bool.{cases_eq}
use Rattle.std.proofs.lemmas.List.{get_or-set_other}
use Rattle.std.proofs.lemmas.Grind.{get_or-set_at}
use Rattle.sp_word.specs.Word.{Word}
use Rattle.sp_word.specs.History.{Table}
use Rattle.sp_paths.specs.Paths.{IsVertex}
use Rattle.sp_answer.specs.Table.{word_in, AreRows}
use Rattle.sp_answer.specs.ForestTable.{Row, row_in, word_of, root_in, table_of}
use Rattle.sp_answer.specs.ForestTable.{AreRows as AreForestRows}
use Rattle.sp_lists.specs.Blocks.{slices, Slices, IsCell, AreCells, KeepsFrom}
use Rattle.sp_lists.specs.Listed.{ListingSlices, listing, KeepsListingFrom}
use Rattle.sp_lists.specs.ForestQuestion.{lists, ForestSlices, IsRootPut, AreNoRoots, ArePutRoots, KeepsListsFrom}

-- ## Rows

-- The rows from the last one before `left` on are that one and those behind it.
pub rows_behind : {A : Type 0} (left : ℕ) (given rows : List A) (row : A) → row ≡ slice_index_or given (left - 1) row → given ≡ rows → left ≤ length rows → 0 < left → drop (left - 1) rows ≡ row ∷ drop left rows
rows_behind {A} left given rows row read is le some =
    let e : suc (left - 1) ≡ left = omega arith in
    let within : left - 1 < length rows = omega arith in
    let step : drop (left - 1) rows ≡ get_or rows (left - 1) row ∷ drop (suc (left - 1)) rows = drop-cons rows (left - 1) row within in
    let L : ℕ → Type 0 = λ j. drop (left - 1) rows ≡ get_or rows (left - 1) row ∷ drop j rows in
    let G : List A → Type 0 = λ xs. drop (left - 1) rows ≡ get_or xs (left - 1) row ∷ drop left rows in
    subst G (sym is) (subst L e step) ∙ ap (λ x. x ∷ drop left rows) (sym read)

-- Each row is of a vertex.
pub tree_vertex : (max n last : ℕ) (rows : List (ℕ × Word)) (i : ℕ) (d : ℕ × Word) → AreRows max n last rows → i < length rows → IsVertex n (get_or rows i d).0
tree_vertex max n last [] i d are within = absurd (omega arith)
tree_vertex max n last (row ∷ more) zero d are within = (omega (arith, are.0), are.1)
tree_vertex max n last (row ∷ more) (suc i) d are within = tree_vertex max n row.0 more i d are.3 (omega arith)

pub forest_vertex : (max n last : ℕ) (rows : List Row) (i : ℕ) (d : Row) → AreForestRows max n last rows → i < length rows → IsVertex n (get_or rows i d).0
forest_vertex max n last [] i d are within = absurd (omega arith)
forest_vertex max n last (row ∷ more) zero d are within = (omega (arith, are.0), are.1)
forest_vertex max n last (row ∷ more) (suc i) d are within = forest_vertex max n row.0 more i d are.4 (omega arith)

-- What holds of each row holds of the one that is read.
holds_of_read : {A : Type 0} (Q : A → Type 0) (left : ℕ) (given rows : List A) (row : A) → row ≡ slice_index_or given (left - 1) row → given ≡ rows → ((i : ℕ) → i < length rows → Q (get_or rows i row)) → left ≤ length rows → 0 < left → Q row
holds_of_read {A} Q left given rows row read is each le some =
    let within : left - 1 < length rows = omega arith in
    let R : List A → Type 0 = λ xs. Q (get_or xs (left - 1) row) in
    subst Q (sym read) (subst R (sym is) (each (left - 1) within))

-- The row that is read is of a vertex.
pub tree_vertex_read : (max n left : ℕ) (given rows : List (ℕ × Word)) (row : ℕ × Word) → row ≡ slice_index_or given (left - 1) row → given ≡ rows → AreRows max n 0 rows → left ≤ length rows → 0 < left → IsVertex n row.0
tree_vertex_read max n left given rows row read is are le some =
    holds_of_read (λ (r : ℕ × Word). IsVertex n r.0) left given rows row read is (λ i within. tree_vertex max n 0 rows i row are within) le some

pub forest_vertex_read : (max n left : ℕ) (given rows : List Row) (row : Row) → row ≡ slice_index_or given (left - 1) row → given ≡ rows → AreForestRows max n 0 rows → left ≤ length rows → 0 < left → IsVertex n row.0
forest_vertex_read max n left given rows row read is are le some =
    holds_of_read (λ (r : Row). IsVertex n r.0) left given rows row read is (λ i within. forest_vertex max n 0 rows i row are within) le some

-- ## Cells

-- A table has this word at a vertex, and those of another table elsewhere.
pub record IsPutAt (vertex : ℕ) (word : Word) (old new : Table) : Type 0 where
  pub here : new vertex ≡ word
  pub others : (v : ℕ) → (v ≡ vertex → ⊥) → new v ≡ old v

pub tree_row : (vertex : ℕ) (word : Word) (rows more : List (ℕ × Word)) → rows ≡ (vertex, word) ∷ more → IsPutAt vertex word (word_in more) (word_in rows)
tree_row vertex word rows more is = record {
  here = ap (λ x. word_in x vertex) is ∙ rw (eq-eqb vertex vertex refl) refl;
  others = λ v other. ap (λ x. word_in x v) is ∙ rw (ne_eqb vertex v (λ e. other (sym e))) refl;
}

pub forest_row : (n vertex root : ℕ) (word : Word) (rows more : List Row) → rows ≡ (vertex, word, root) ∷ more → IsPutAt vertex word (table_of (record { n = n; rows = more })) (table_of (record { n = n; rows = rows }))
forest_row n vertex root word rows more is = record {
  here = ap (λ x. word_of (row_in x vertex)) is ∙ rw (eq-eqb vertex vertex refl) refl;
  others = λ v other. ap (λ x. word_of (row_in x v)) is ∙ rw (ne_eqb vertex v (λ e. other (sym e))) refl;
}

put_here : (xs : List ℕ) (i j x : ℕ) → j ≡ i → i < length xs → slice_index (slice_set xs i x) j ≡ x
put_here xs i j x e within = get_or-set_at xs i j x 0 e within

put_elsewhere : (xs : List ℕ) (i j x : ℕ) → (j ≡ i → ⊥) → slice_index (slice_set xs i x) j ≡ slice_index xs j
put_elsewhere xs i j x other = get_or-set_other xs i j x 0 other

-- The cell of a vertex is put.
pub cell_put : (n vertex d p : ℕ) (word : Word) (old new : Table) (dist pred : List ℕ) → IsPutAt vertex word old new → IsVertex n vertex → n ≤ length dist → n ≤ length pred
    → IsCell word d p → AreCells 0 n old (slices dist pred) → AreCells 0 n new (slices (slice_set dist (vertex - 1) d) (slice_set pred (vertex - 1) p))
cell_put n vertex d p word old new dist pred put at dists preds cell cells v here = go (cases_eq v vertex)
  where
    go : (v ≡ vertex) ⊎ (v ≡ vertex → ⊥) → IsCell (new v) (slice_index (slice_set dist (vertex - 1) d) (0 + (v - 1))) (slice_index (slice_set pred (vertex - 1) p) (0 + (v - 1)))
    go (inl same) =
        let least = at.0 in
        let most = at.1 in
        let j : 0 + (v - 1) ≡ vertex - 1 = omega (arith, same) in
        let within : vertex - 1 < length dist = omega arith in
        let inside : vertex - 1 < length pred = omega arith in
        let W : Word → Type 0 = λ w. IsCell w (slice_index (slice_set dist (vertex - 1) d) (0 + (v - 1))) (slice_index (slice_set pred (vertex - 1) p) (0 + (v - 1))) in
        let D : ℕ → Type 0 = λ x. IsCell word x (slice_index (slice_set pred (vertex - 1) p) (0 + (v - 1))) in
        subst W (sym (ap new same ∙ put.here)) (subst D (sym (put_here dist (vertex - 1) (0 + (v - 1)) d j within))
        (subst (IsCell word d) (sym (put_here pred (vertex - 1) (0 + (v - 1)) p j inside)) cell))
    go (inr other) =
        let least = at.0 in
        let first = here.0 in
        let j : 0 + (v - 1) ≡ vertex - 1 → ⊥ = λ same. other (omega (arith, same)) in
        let W : Word → Type 0 = λ w. IsCell w (slice_index (slice_set dist (vertex - 1) d) (0 + (v - 1))) (slice_index (slice_set pred (vertex - 1) p) (0 + (v - 1))) in
        let D : ℕ → Type 0 = λ x. IsCell (old v) x (slice_index (slice_set pred (vertex - 1) p) (0 + (v - 1))) in
        subst W (sym (put.others v other)) (subst D (sym (put_elsewhere dist (vertex - 1) (0 + (v - 1)) d j))
        (subst (IsCell (old v) (slice_index dist (0 + (v - 1)))) (sym (put_elsewhere pred (vertex - 1) (0 + (v - 1)) p j)) (cells v here)))

-- Nothing else is written.
pub rest_put : (n place d p : ℕ) (old : Slices) (dist pred : List ℕ) → place < n → KeepsFrom n old (slices dist pred) → KeepsFrom n old (slices (slice_set dist place d) (slice_set pred place p))
rest_put n place d p old dist pred within keeps k h =
    let other : k ≡ place → ⊥ = λ e. omega (arith, e) in
    let same = keeps k h in
    (put_elsewhere dist place k d other ∙ same.0, put_elsewhere pred place k p other ∙ same.1)

-- ## Roots

-- The root of a vertex is put.
pub root_put : (n vertex root r : ℕ) (word : Word) (rows more : List Row) (there : List ℕ) → rows ≡ (vertex, word, root) ∷ more → IsVertex n vertex → n ≤ length there
    → IsRootPut word (Some root) r → ArePutRoots n (record { n = n; rows = more }) there → ArePutRoots n (record { n = n; rows = rows }) (slice_set there (vertex - 1) r)
root_put n vertex root r word rows more there is at long put puts v here = go (cases_eq v vertex)
  where
    go : (v ≡ vertex) ⊎ (v ≡ vertex → ⊥) → IsRootPut (word_of (row_in rows v)) (root_in (row_in rows v)) (slice_index (slice_set there (vertex - 1) r) (v - 1))
    go (inl same) =
        let least = at.0 in
        let most = at.1 in
        let within : vertex - 1 < length there = omega arith in
        let found : row_in rows v ≡ Some (vertex, word, root) = ap (λ x. row_in x v) is ∙ rw (eq-eqb vertex v (sym same)) refl in
        let R = λ (o : Option Row). IsRootPut (word_of o) (root_in o) (slice_index (slice_set there (vertex - 1) r) (v - 1)) in
        subst R (sym found) (subst (IsRootPut word (Some root)) (sym (put_here there (vertex - 1) (v - 1) r (ap (λ x. x - 1) same) within)) put)
    go (inr other) =
        let least = at.0 in
        let first = here.0 in
        let j : v - 1 ≡ vertex - 1 → ⊥ = λ same. other (omega (arith, same)) in
        let passed : row_in rows v ≡ row_in more v = ap (λ x. row_in x v) is ∙ rw (ne_eqb vertex v (λ e. other (sym e))) refl in
        let R = λ (o : Option Row). IsRootPut (word_of o) (root_in o) (slice_index (slice_set there (vertex - 1) r) (v - 1)) in
        subst R (sym passed) (subst (IsRootPut (word_of (row_in more v)) (root_in (row_in more v))) (sym (put_elsewhere there (vertex - 1) (v - 1) r j)) (puts v here))

-- Nothing else is written.
pub lists_put : (n place d p r : ℕ) (old : ForestSlices) (dist pred root : List ℕ) → place < n → KeepsListsFrom n old (lists dist pred root)
    → KeepsListsFrom n old (lists (slice_set dist place d) (slice_set pred place p) (slice_set root place r))
lists_put n place d p r old dist pred root within keeps k h =
    let other : k ≡ place → ⊥ = λ e. omega (arith, e) in
    let same = keeps k h in
    (put_elsewhere dist place k d other ∙ same.0, put_elsewhere pred place k p other ∙ same.1, put_elsewhere root place k r other ∙ same.2)

-- Where no vertex has a row, none has a root.
pub no_roots_put : (n : ℕ) (root : List ℕ) → AreNoRoots n root → ArePutRoots n (record { n = n; rows = [] }) root
no_roots_put n root none v at = none v at

-- ## Lists

-- The slices hold the rows before the place i.
abbrev pub HasRowsBefore : (i : ℕ) → List (ℕ × Word) → ListingSlices → Type 0
HasRowsBefore i rows l = (k : ℕ) (row : ℕ × Word) → k < i → slice_get rows k ≡ Some row → (slice_index l.vertex k ≡ row.0) × IsCell row.1 (slice_index l.dist k) (slice_index l.pred k)

-- One row more is listed.
pub row_listed : (rows : List (ℕ × Word)) (place d p : ℕ) (row : ℕ × Word) (vertex dist pred : List ℕ) → slice_get rows place ≡ Some row → place < length vertex → place < length dist → place < length pred
    → IsCell row.1 d p → HasRowsBefore place rows (listing vertex dist pred) → HasRowsBefore (place + 1) rows (listing (slice_set vertex place row.0) (slice_set dist place d) (slice_set pred place p))
row_listed rows place d p row vertex dist pred there vs ds ps cell before k other below is = go (cases_eq k place)
  where
    go : (k ≡ place) ⊎ (k ≡ place → ⊥) → (slice_index (slice_set vertex place row.0) k ≡ other.0) × IsCell other.1 (slice_index (slice_set dist place d) k) (slice_index (slice_set pred place p) k)
    go (inl same) =
        let here : slice_get rows place ≡ Some other = subst (λ j. slice_get rows j ≡ Some other) same is in
        let one : other ≡ row = cc in
        let D : ℕ → Type 0 = λ x. IsCell row.1 x (slice_index (slice_set pred place p) k) in
        let put : IsCell row.1 (slice_index (slice_set dist place d) k) (slice_index (slice_set pred place p) k) = subst D (sym (put_here dist place k d same ds)) (subst (IsCell row.1 d) (sym (put_here pred place k p same ps)) cell) in
        let O : (ℕ × Word) → Type 0 = λ r. IsCell r.1 (slice_index (slice_set dist place d) k) (slice_index (slice_set pred place p) k) in
        (put_here vertex place k row.0 same vs ∙ ap (λ (r : ℕ × Word). r.0) (sym one), subst O (sym one) put)
    go (inr differs) =
        let earlier : k < place = grind arith in
        let held = before k other earlier is in
        let D : ℕ → Type 0 = λ x. IsCell other.1 x (slice_index (slice_set pred place p) k) in
        (put_elsewhere vertex place k row.0 differs ∙ held.0, subst D (sym (put_elsewhere dist place k d differs)) (subst (IsCell other.1 (slice_index dist k)) (sym (put_elsewhere pred place k p differs)) held.1))

-- Nothing else is written.
pub listing_put : (place v d p : ℕ) (old : ListingSlices) (vertex dist pred : List ℕ) → KeepsListingFrom place old (listing vertex dist pred)
    → KeepsListingFrom (place + 1) old (listing (slice_set vertex place v) (slice_set dist place d) (slice_set pred place p))
listing_put place v d p old vertex dist pred keeps k h =
    let other : k ≡ place → ⊥ = λ e. omega (arith, e) in
    let above : place ≤ k = omega arith in
    let same = keeps k above in
    (put_elsewhere vertex place k v other ∙ same.0, put_elsewhere dist place k d other ∙ same.1, put_elsewhere pred place k p other ∙ same.2)

-- All rows are listed.
pub all_listed : (i : ℕ) (rows : List (ℕ × Word)) (l : ListingSlices) (k : ℕ) (row : ℕ × Word) → length rows ≤ i → HasRowsBefore i rows l → slice_get rows k ≡ Some row → (slice_index l.vertex k ≡ row.0) × IsCell row.1 (slice_index l.dist k) (slice_index l.pred k)
all_listed i rows l k row all held there =
    let within : k < length rows = slice_get_within rows k row there in
    let below : k < i = omega arith in
    held k row below there
