-- A forest has one row without a predecessor for each of its sources, and for no other vertex.
use Rattle.std.proofs.Common.{◌≡◌, ◌≢◌, ℕ, zero, suc, ◌<◌, ◌≤◌, ◌⊎◌, inl, inr, Bool, true, false, cond, List, [], ◌∷◌, length, map, Option, Some, None, refl, sym, ◌∙◌, ap, subst, nat_eq, eq-eqb, ne_eqb, eqb-true, arith}
use Rattle.std.specs.Prelude.{Contains}
use Rattle.std.specs.List.{filter, IsDistinct, AllByRecursion}
use Rattle.std.specs.Set.{is_member, distinct_count}
use Rattle.std.proofs.lemmas.Bool.{cases_eq}
use Rattle.std.proofs.lemmas.Cmp.{nat_eq_equiv}
use Rattle.std.proofs.lemmas.List.{length-map}
use Rattle.std.proofs.lemmas.List.Elements.{All-contains}
use Rattle.std.proofs.lemmas.List.Sums.{length-filter}
use Rattle.std.proofs.lemmas.Map.Made.{length-from_keys}
use Rattle.std.proofs.lemmas.Map.Views.{list_any-from_Contains, Contains-from_any}
use Rattle.sp_word.specs.Word.{Word, Unreached, Pair, max_dist}
use Rattle.sp_paths.specs.Paths.{Graph, IsVertex}
use Rattle.sp_paths.specs.Forests.{IsForestWord}
use Rattle.sp_paths.specs.Roots.{LeadsBack}
use Rattle.sp_answer.specs.ForestTable.{Row, ForestTable, IsForestTable, AreRows, row_in, word_of, table_of}
use Rattle.sp_answer.specs.Nearest.{IsForestUpTo, IsForestAnswer}
use Rattle.sp_paths.proofs.ForestWalks.{any_none, source_nearest}
use Rattle.sp_files.specs.ForestText.{is_first, is_source, source_count}

-- ## Rows without a predecessor

-- their vertices
abbrev each : List Row → List ℕ
each rows = map (λ row. row.0) (filter is_source rows)

abbrev each_step : Bool → Row → List Row → List ℕ
each_step b row more = map (λ r. r.0) (cond b (row ∷ filter is_source more) (filter is_source more))

abbrev is_own : Option Row → Bool
is_own None = false
is_own (Some row) = is_source row

each_length : (rows : List Row) → length (each rows) ≡ source_count rows
each_length rows = length-map (filter is_source rows) (λ row. row.0) ∙ length-filter is_source rows

none_step : (q : ℕ) (row : Row) (more : List Row) (b : Bool) → q ≢ row.0 → is_member nat_eq (each more) q ≡ false → is_member nat_eq (each_step b row more) q ≡ false
none_step q row more true other rest = rw (ne_eqb q row.0 other) rest
none_step q row more false other rest = rest

apart_step : (v : ℕ) (row : Row) (more : List Row) (b : Bool) → v ≢ row.0 → AllByRecursion (λ y. nat_eq v y ≡ false) (each more) → AllByRecursion (λ y. nat_eq v y ≡ false) (each_step b row more)
apart_step v row more true other rest = (ne_eqb v row.0 other, rest)
apart_step v row more false other rest = rest

distinct_step : (row : Row) (more : List Row) (b : Bool) → AllByRecursion (λ y. nat_eq row.0 y ≡ false) (each more) → IsDistinct nat_eq (each more) → IsDistinct nat_eq (each_step b row more)
unfolding IsDistinct
distinct_step row more true first rest = (first, rest)
distinct_step row more false first rest = rest

here_step : (q : ℕ) (row : Row) (more : List Row) (b : Bool) → row.0 ≡ q → is_member nat_eq (each more) q ≡ false → is_member nat_eq (each_step b row more) q ≡ b
here_step q row more true e none = rw (eq-eqb q row.0 (sym e)) refl
here_step q row more false e none = none

later_step : (q : ℕ) (row : Row) (more : List Row) (b own : Bool) → row.0 ≢ q → is_member nat_eq (each more) q ≡ own → is_member nat_eq (each_step b row more) q ≡ own
later_step q row more true own other rest = rw (ne_eqb q row.0 (λ e. other (sym e))) rest
later_step q row more false own other rest = rest

member_step : (q : ℕ) (row : Row) (more : List Row) → (row.0 ≡ q) ⊎ (row.0 ≡ q → ⊥) → (row.0 ≡ q → is_member nat_eq (each more) q ≡ false) → is_member nat_eq (each more) q ≡ is_own (row_in more q) → is_member nat_eq (each (row ∷ more)) q ≡ is_own (row_in (row ∷ more) q)
member_step q row more (inl e) none rest = rw (eq-eqb row.0 q e) (here_step q row more (is_source row) e (none e))
member_step q row more (inr other) none rest = rw (ne_eqb row.0 q other) (later_step q row more (is_source row) (is_own (row_in more q)) other rest)

module _ (max n : ℕ) where
  none_below : (last q : ℕ) (rows : List Row) → AreRows max n last rows → q ≤ last → is_member nat_eq (each rows) q ≡ false
  none_below last q [] are le = refl
  none_below last q (row ∷ more) are le = none_step q row more (is_source row) (λ e. omega (arith, e, are.0, le)) (none_below row.0 q more are.4 (omega (arith, are.0, le)))

  apart : (last v : ℕ) (rows : List Row) → AreRows max n last rows → v ≤ last → AllByRecursion (λ y. nat_eq v y ≡ false) (each rows)
  apart last v [] are le = tt
  apart last v (row ∷ more) are le = apart_step v row more (is_source row) (λ e. omega (arith, e, are.0, le)) (apart row.0 v more are.4 (omega (arith, are.0, le)))

  distinct : (last : ℕ) (rows : List Row) → AreRows max n last rows → IsDistinct nat_eq (each rows)
  unfolding IsDistinct
  distinct last [] are = tt
  distinct last (row ∷ more) are = distinct_step row more (is_source row) (apart row.0 row.0 more are.4 (omega arith)) (distinct row.0 more are.4)

  member : (last q : ℕ) (rows : List Row) → AreRows max n last rows → is_member nat_eq (each rows) q ≡ is_own (row_in rows q)
  member last q [] are = refl
  member last q (row ∷ more) are = member_step q row more (cases_eq row.0 q) (λ e. none_below row.0 q more are.4 (omega (arith, e))) (member row.0 q more are.4)

  vertex_step : (last q : ℕ) (x row : Row) (more : List Row) → (x.0 ≡ q) ⊎ (x.0 ≡ q → ⊥) → AreRows max n last (x ∷ more) → (row_in more q ≡ Some row → (x.0 < q) × (q ≤ n)) → row_in (x ∷ more) q ≡ Some row → (last < q) × (q ≤ n)
  vertex_step last q x row more (inl e) are rest is = (omega (arith, e, are.0), omega (arith, e, are.1))
  vertex_step last q x row more (inr other) are rest is = let later = rest (rw (ne_eqb x.0 q other) at is) in (omega (arith, are.0, later.0), later.1)

  -- a vertex that has a row is one from 1 to n
  row_vertex : (last q : ℕ) (rows : List Row) (row : Row) → AreRows max n last rows → row_in rows q ≡ Some row → (last < q) × (q ≤ n)
  row_vertex last q [] row are is = absurd (cc)
  row_vertex last q (x ∷ more) row are is = vertex_step last q x row more (cases_eq x.0 q) are (row_vertex x.0 q more row are.4) is

-- ## In a forest

equal_tests : (b c : Bool) → (b ≡ true → c ≡ true) → (c ≡ true → b ≡ true) → b ≡ c
equal_tests true c there back = sym (there refl)
equal_tests false true there back = back refl
equal_tests false false there back = refl

-- a word without a predecessor
first_word : (w : Word) → is_first w ≡ true → (d : ℕ) × (w ≡ Pair d 0)
first_word Unreached is = absurd (cc)
first_word (Pair d p) is = (d, ap (λ x. Pair d x) (eqb-true p 0 is))

own_pair : (row : Option Row) → word_of row ≡ Pair 0 0 → is_own row ≡ true
own_pair None is = absurd (cc)
own_pair (Some row) is = ap is_first is

module _ (P : ℕ) (g : Graph) (ss : List ℕ) (limit : Option ℕ) (f : ForestTable) (table : IsForestTable P f) (answer : IsForestAnswer P g ss limit f) where
  -- no vertex 0 is reached
  none_at_0 : (row : Option Row) → row_in f.rows 0 ≡ row → word_of row ≡ Unreached
  none_at_0 None is = refl
  none_at_0 (Some row) is = absurd (omega (arith, (row_vertex (max_dist P) f.n 0 0 f.rows row table.rows is).0))

  at_0 : table_of f 0 ≡ Unreached
  at_0 = none_at_0 (row_in f.rows 0) refl

  led : (steps v d r : ℕ) → table_of f v ≡ Pair d 0 → LeadsBack (table_of f) steps v r → v ≡ r
  led zero v d r is back = back.0
  led (suc steps) v d r is (e, p, word, more, back) = absurd (lost steps (rw (pred_is) at back))
    where
      pred_is : p ≡ 0
      pred_is = cc (word, is)

      lost : (k : ℕ) → LeadsBack (table_of f) k 0 r → ⊥
      lost zero b = cc (b.1, at_0)
      lost (suc k) b = cc (b.2, at_0)

  source_there : (row : Option Row) (q : ℕ) → row_in f.rows q ≡ row → is_own row ≡ true → Contains ss q
  source_there None q is own = absurd (cc)
  source_there (Some row) q is own =
      let at = row_vertex (max_dist P) f.n 0 q f.rows row table.rows is in
      let vertex : IsVertex g.n q = subst (λ n. IsVertex n q) answer.n (at.0, at.1) in
      let first = first_word row.1 own in
      let word : table_of f q ≡ Pair first.0 0 = ap word_of is ∙ first.1 in
      let (r, root, chain) = answer.roots q first.0 0 vertex word in
      subst (Contains ss) (sym (led chain.chain.0 q first.0 r word chain.chain.1)) chain.source

  own_word : (s : ℕ) (w : Word) → Contains ss s → IsForestWord g ss s w → w ≡ Pair 0 0
  own_word s Unreached here t = absurd (t 0 (any_none g ss s here))
  own_word s (Pair d p) here (inl own) = rw (own.1, own.2) refl
  own_word s (Pair d p) here (inr t) = absurd (t.0 here)

  source_word : (s : ℕ) (l : Option ℕ) → Contains ss s → IsForestUpTo P g ss l (table_of f) → table_of f s ≡ Pair 0 0
  source_word s None here t = own_word s (table_of f s) here (t.0 s (All-contains (IsVertex g.n) ss s answer.vertices here))
  source_word s (Some l) here t = own_word s (table_of f s) here (t.near s (0, source_nearest g ss s here, omega arith))

  same_members : (q : ℕ) → is_member nat_eq (each f.rows) q ≡ is_member nat_eq ss q
  same_members q = member (max_dist P) f.n 0 q f.rows table.rows ∙ equal_tests (is_own (row_in f.rows q)) (is_member nat_eq ss q)
      (λ own. list_any-from_Contains nat_eq_equiv q ss (source_there (row_in f.rows q) q refl own))
      (λ is. own_pair (row_in f.rows q) (source_word q limit (Contains-from_any (λ x y e. eqb-true x y e) q ss is) answer.forest))

  -- So their number is that of the sources, each counted once.
  pub sources_counted : source_count f.rows ≡ distinct_count nat_eq ss
  sources_counted = sym (each_length f.rows) ∙ length-from_keys nat_eq_equiv (each f.rows) ss (distinct (max_dist P) f.n 0 f.rows table.rows) same_members
