-- Rows of a part within a limit, and their roots.
use Rattle.std.proofs.Common.{◌≡◌, ◌≢◌, ℕ, zero, suc, ◌+◌, ◌<◌, ◌≤◌, ◌⊎◌, inl, inr, List, [], ◌∷◌, ◌++◌, length, take, get_or, set, replicate, refl, sym, ap, ◌∙◌, subst, eq-eqb, ne_eqb, arith, length-set, get_or-set_same, get_or-set_other}
use Rattle.std.specs.Prelude.{All, Contains, Some}
use Rattle.std.specs.List.{AllZip}
use Rattle.std.proofs.lemmas.Bool.{cases_eq}
use Rattle.std.proofs.lemmas.List.{get_or-replicate, length-replicate, take_all, take_more}
use Rattle.sp_word.specs.Word.{Word, Pair, max_dist}
use Rattle.sp_word.specs.History.{Table}
use Rattle.sp_paths.specs.Paths.{Graph, IsGraph, IsVertex, IsLeast}
use Rattle.sp_answer.specs.Table.{TreeTable, IsTable, table_of, word_in}
use Rattle.sp_answer.proofs.RisingRows.{row_found}
use Rattle.sp_paths.specs.Roots.{LeadsBack, IsRoot}
use Rattle.sp_answer.specs.ForestTable.{ForestTable, Row, root_in, row_in, word_of}
use Rattle.sp_answer.specs.ForestTable.{table_of as word_in_forest}
use Rattle.sp_paths.specs.Forests.{IsForestWord, IsForestWithin}
use Rattle.sp_paths.proofs.Chains.{part_has_roots}
use Rattle.sp_answer.proofs.RootSteps.{root_on}
use Rattle.sp_answer.specs.Nearest.{HasRoots, IsForestAnswer}
use Rattle.sp_serial.specs.Part.{HasPart}
use Rattle.sp_serial.specs.Rooted.{AreKnownRoots, HasRow, IsForestOf, IsRowAt}

-- ## The root of a row

pub row_word : (P : ℕ) (t : TreeTable) (place : ℕ) (none : ℕ × Word) → IsTable P t → place < length t.rows → table_of t (get_or t.rows place none).0 ≡ (get_or t.rows place none).1
row_word P t place none table low = row_found (max_dist P) t.n 0 t.rows place none table.rows low

-- a source's own
pub own_root : (t : TreeTable) (v : ℕ) → table_of t v ≡ Pair 0 0 → IsRoot (table_of t) v v
own_root t v is = (0, (refl, is))

module _ (P : ℕ) (t : TreeTable) (table : IsTable P t) (place : ℕ) (row : ℕ × Word) (low : place < length t.rows) (at : (none : ℕ × Word) → get_or t.rows place none ≡ row) where
  word_here : table_of t row.0 ≡ row.1
  word_here = ap (λ (x : ℕ × Word). table_of t x.0) (sym (at row)) ∙ row_word P t place row table low ∙ ap (λ (x : ℕ × Word). x.1) (at row)

  there : (none : ℕ × Word) (r : ℕ) → IsRoot (table_of t) row.0 r → IsRoot (table_of t) (get_or t.rows place none).0 r
  there none r chain = subst (λ (x : ℕ × Word). IsRoot (table_of t) x.0 r) (sym (at none)) chain

  pub source_root : row.1 ≡ Pair 0 0 → (none : ℕ × Word) → IsRoot (table_of t) (get_or t.rows place none).0 row.0
  source_root word none = there none row.0 (own_root t row.0 (word_here ∙ word))

  pub later_root : (d p : ℕ) → row.1 ≡ Pair d p → 0 < d → (roots : List ℕ) → AreKnownRoots t roots → (before : ℕ) → IsRowAt t.rows p before → 0 < get_or roots before 0 → (none : ℕ × Word) → IsRoot (table_of t) (get_or t.rows place none).0 (get_or roots before 0)
  later_root d p word far roots known before before_at some none =
      let r = get_or roots before 0 in
      let chain : IsRoot (table_of t) p r = subst (λ (v : ℕ). IsRoot (table_of t) v r) (before_at.1 row) (known.known before row before_at.0 some) in
      there none r (root_on (table_of t) row.0 d p r (word_here ∙ word) far chain)

pub known_none : (t : TreeTable) (roots : List ℕ) → roots ≡ replicate (length t.rows) 0 → AreKnownRoots t roots
known_none t roots is = record {
  size = ap (λ (rs : List ℕ). length rs) is ∙ length-replicate (length t.rows) 0;
  known = λ k none low some.
      let zero : get_or roots k 0 ≡ 0 = ap (λ (rs : List ℕ). get_or rs k 0) is ∙ get_or-replicate (length t.rows) k 0 0 low in
      absurd (omega (arith, zero, some));
}

pub known_set : (t : TreeTable) (roots : List ℕ) (place r : ℕ) → place < length roots → AreKnownRoots t roots → (0 < r → (none : ℕ × Word) → IsRoot (table_of t) (get_or t.rows place none).0 r) → AreKnownRoots t (set roots place r)
known_set t roots place r low before root = record {
  size = length-set roots place r ∙ before.size;
  known = λ k none less some. known k none less some (cases_eq k place);
}
  where
    IsKnown : (k : ℕ) (none : ℕ × Word) → ℕ → Type 0
    IsKnown k none x = 0 < x → IsRoot (table_of t) (get_or t.rows k none).0 x

    here : get_or (set roots place r) place 0 ≡ r
    here = get_or-set_same roots place r 0 low

    known : (k : ℕ) (none : ℕ × Word) → k < length t.rows → 0 < get_or (set roots place r) k 0 → (k ≡ place) ⊎ (k ≡ place → ⊥) → IsRoot (table_of t) (get_or t.rows k none).0 (get_or (set roots place r) k 0)
    known k none less some (inl same) =
        let is : get_or (set roots place r) k 0 ≡ r = ap (λ (j : ℕ). get_or (set roots place r) j 0) same ∙ here in
        let told : IsRoot (table_of t) (get_or t.rows k none).0 r = subst (λ (j : ℕ). IsRoot (table_of t) (get_or t.rows j none).0 r) (sym same) (root (omega (arith, is, some)) none) in
        subst (λ (x : ℕ). IsRoot (table_of t) (get_or t.rows k none).0 x) (sym is) told
    known k none less some (inr other) =
        let is : get_or (set roots place r) k 0 ≡ get_or roots k 0 = get_or-set_other roots place k r 0 other in
        subst (λ (x : ℕ). IsRoot (table_of t) (get_or t.rows k none).0 x) (sym is) (before.known k none less (omega (arith, is, some)))

-- ## Row after row

-- the same vertex and word, and its root
abbrev pub IsRowOf : TreeTable → ℕ × Word → Row → Type 0
IsRowOf t row rooted = (rooted.0 ≡ row.0) × (rooted.1 ≡ row.1) × IsRoot (table_of t) row.0 rooted.2

-- the first rows of the tree's table
pub record AreRooted (t : TreeTable) (count : ℕ) (f : ForestTable) : Type 0 where
  pub n : f.n ≡ t.n
  pub rows : AllZip (IsRowOf t) (take count t.rows) f.rows

zip_push : (t : TreeTable) (rows : List (ℕ × Word)) (mine : List Row) (row : ℕ × Word) (last : Row) → AllZip (IsRowOf t) rows mine → IsRowOf t row last → AllZip (IsRowOf t) (rows ++ row ∷ []) (mine ++ last ∷ [])
zip_push t [] [] row last zip is = (is, tt)
zip_push t [] (x ∷ xs) row last zip is = absurd zip
zip_push t (x ∷ xs) [] row last zip is = absurd zip
zip_push t (x ∷ xs) (y ∷ ys) row last zip is = (zip.0, zip_push t xs ys row last zip.1 is)

pub rooted_more : (t : TreeTable) (i : ℕ) (f after : ForestTable) (row : ℕ × Word) (root : ℕ) → i < length t.rows → get_or t.rows i row ≡ row → AreRooted t i f → HasRow f row.0 row.1 root after → IsRoot (table_of t) row.0 root → AreRooted t (i + 1) after
rooted_more t i f after row root low is before pushed chain =
    let last : Row = (row.0, row.1, root) in
    let zip : AllZip (IsRowOf t) (take i t.rows ++ row ∷ []) (f.rows ++ last ∷ []) = zip_push t (take i t.rows) f.rows row last before.rows (refl, refl, chain) in
    let rows : take (i + 1) t.rows ≡ take i t.rows ++ row ∷ [] = take_more t.rows i row low ∙ ap (λ (x : ℕ × Word). take i t.rows ++ x ∷ []) is in
    record {
      n = pushed.n ∙ before.n;
      rows = subst (λ (mine : List Row). AllZip (IsRowOf t) (take (i + 1) t.rows) mine) (sym pushed.rows) (subst (λ (xs : List (ℕ × Word)). AllZip (IsRowOf t) xs (f.rows ++ last ∷ [])) (sym rows) zip);
    }

same_word : (t : TreeTable) (rows : List (ℕ × Word)) (mine : List Row) → AllZip (IsRowOf t) rows mine → (v : ℕ) → word_of (row_in mine v) ≡ word_in rows v
same_word t [] [] zip v = refl
same_word t [] (y ∷ ys) zip v = absurd zip
same_word t (x ∷ xs) [] zip v = absurd zip
same_word t (x ∷ xs) (y ∷ ys) zip v = go (same_word t xs ys zip.1 v) (cases_eq x.0 v)
  where
    go : word_of (row_in ys v) ≡ word_in xs v → (x.0 ≡ v) ⊎ (x.0 ≡ v → ⊥) → word_of (row_in (y ∷ ys) v) ≡ word_in (x ∷ xs) v
    go more (inl same) = rw (eq-eqb y.0 v (zip.0.0 ∙ same), eq-eqb x.0 v same) zip.0.1
    go more (inr other) =
        let mine : y.0 ≢ v = λ e. other (sym zip.0.0 ∙ e) in
        rw (ne_eqb y.0 v mine, ne_eqb x.0 v other) more

has_root : (t : TreeTable) (rows : List (ℕ × Word)) (mine : List Row) → AllZip (IsRowOf t) rows mine → (v d p : ℕ) → word_in rows v ≡ Pair d p → (r : ℕ) × (root_in (row_in mine v) ≡ Some r) × IsRoot (table_of t) v r
has_root t [] [] zip v d p is = cc
has_root t [] (y ∷ ys) zip v d p is = absurd zip
has_root t (x ∷ xs) [] zip v d p is = absurd zip
has_root t (x ∷ xs) (y ∷ ys) zip v d p is = go (has_root t xs ys zip.1 v d p) (cases_eq x.0 v)
  where
    go : (word_in xs v ≡ Pair d p → (r : ℕ) × (root_in (row_in ys v) ≡ Some r) × IsRoot (table_of t) v r) → (x.0 ≡ v) ⊎ (x.0 ≡ v → ⊥) → (r : ℕ) × (root_in (row_in (y ∷ ys) v) ≡ Some r) × IsRoot (table_of t) v r
    go more (inl same) = (y.2, rw (eq-eqb y.0 v (zip.0.0 ∙ same)) refl, subst (λ (u : ℕ). IsRoot (table_of t) u y.2) same zip.0.2)
    go more (inr other) =
        let mine : y.0 ≢ v = λ e. other (sym zip.0.0 ∙ e) in
        let (r, told, chain) = more (rw (ne_eqb x.0 v other) at is) in
        (r, rw (ne_eqb y.0 v mine) told, chain)

pub rooted_all : (t : TreeTable) (count : ℕ) (f : ForestTable) → length t.rows ≤ count → AreRooted t count f → IsForestOf t f
rooted_all t count f all are =
    let zip : AllZip (IsRowOf t) t.rows f.rows = subst (λ (rows : List (ℕ × Word)). AllZip (IsRowOf t) rows f.rows) (take_all count t.rows all) are.rows in
    record { n = are.n; words = same_word t t.rows f.rows zip; roots = has_root t t.rows f.rows zip }

-- ## The part of the forest

leads_on : (a b : Table) → ((v : ℕ) → b v ≡ a v) → (steps v r : ℕ) → LeadsBack a steps v r → LeadsBack b steps v r
leads_on a b same zero v r back = (back.0, same v ∙ back.1)
leads_on a b same (suc k) v r (d, p, is, low, back) = (d, p, same v ∙ is, low, leads_on a b same k p r back)

pub forest_of_part : (P : ℕ) (g : Graph) → IsGraph g → (sources : List ℕ) → All (IsVertex g.n) sources → (limit : ℕ) (t : TreeTable) → HasPart g sources limit t → (f : ForestTable) → IsForestOf t f → IsForestAnswer P g sources (Some limit) f
forest_of_part P g graph sources vertices limit t has f of = record { vertices = vertices; n = of.n ∙ has.n; forest = part; roots = roots }
  where
    part : IsForestWithin g sources limit (word_in_forest f)
    part = record { near = λ v near. subst (IsForestWord g sources v) (sym (of.words v)) (has.part.near v near); others = λ v at far. of.words v ∙ has.part.others v at far }

    roots : HasRoots g sources f
    roots v d p at is =
        let (r, told, back) = of.roots v d p (sym (of.words v) ∙ is) in
        let chain : IsRoot (word_in_forest f) v r = (back.0, leads_on (table_of t) (word_in_forest f) of.words back.0 v r back.1) in
        let law = (part_has_roots g sources limit (word_in_forest f) graph part).roots v d p at is in
        let root : r ≡ law.root = law.one r chain in
        (r, told, record { chain = chain; source = subst (Contains sources) (sym root) law.source; dist = subst (λ x. IsLeast g x v d) (sym root) (law.dist d p is) })
