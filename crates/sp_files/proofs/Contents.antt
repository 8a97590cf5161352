-- What a file may hold: its rows, their ranges, and its text without the last line.
use Rattle.std.proofs.Common.{◌≡◌, ℕ, ◌+◌, ◌-◌, ◌^◌, ◌<◌, Bool, true, false, List, [], ◌∷◌, ◌++◌, map, decimal, Option, Some, None, refl, sym, ap, ◌∙◌, append_assoc, arith}
use Rattle.std.specs.Prelude.{is_some, unwrap_or}
use Rattle.std.proofs.lemmas.List.{append-nil, flat_map_more}
use Rattle.std.specs.List.{flat_map}
use Rattle.sp_word.specs.Word.{Word, Unreached, Pair, is_layout, max_dist, max_pred}
use Rattle.sp_paths.specs.Paths.{IsVertex}
use Rattle.sp_answer.specs.Table.{TreeTable, AreRows, last_after, last_vertex, with_row}
use Rattle.sp_answer.proofs.RisingRows.{few_rows, row_added}
use Rattle.sp_answer.specs.ForestTable.{Row as TableRow, ForestTable, AreRows as AreRootedRows, last_after as last_rooted_after, last_vertex as last_rooted, with_row as with_rooted_row}
use Rattle.sp_answer.proofs.ForestRows.{few_rows as few_rooted, row_added as rooted_added}
use Rattle.sp_files.specs.declared.lines.RowNumbers.{RowNumbers}
use Rattle.sp_files.specs.declared.lines.Line.TheVariants.{Problem, Row}
use Rattle.sp_files.specs.declared.content.RowProgress.{RowProgress}
use Rattle.sp_files.specs.TreeText.{problem_text, reached_text, row_text, end_text, tree_text}
use Rattle.sp_files.specs.ForestText.{problem_text as near_text, reached_text as rooted_text, row_text as rooted_row_text, file_text}
use Rattle.sp_files.specs.Spelling.{Content, OfTree, OfForest, capped_root, capped_row, place, begin, add, second_range, problem_fault, root_fault, row_fault}
use Rattle.sp_files.specs.Taking.{IsContent, IsRootWithin, IsRowWithin, content_text}
use Rattle.sp_files.proofs.Ranges.{maxima_small, range_facts, range_ok, range_capped, small_same}
use Rattle.sp_files.proofs.LineBytes.{AreSmall, root_numbers, numbers, line_bytes}

-- 1. The numbers of a row without a fault are in range, and few bits hold them.

layout_of : (P : ℕ) (content : Content) → IsContent P content → is_layout P ≡ true
layout_of P (OfTree t) h = h.layout
layout_of P (OfForest k f) h = h.table.layout

-- The limits of a file leave room.
room : (P : ℕ) (content : Content) → IsContent P content → ((place content).n < 2 ^ 64 - 1) × ((place content).rows < 2 ^ 64 - 1)
room P (OfTree t) h =
    let limits = maxima_small P h.layout in
    (omega (arith, limits.0, h.most), omega (arith, limits.0, h.most, few_rows (max_dist P) t.n 0 t.rows (omega arith) h.rows))
room P (OfForest k f) h =
    let limits = maxima_small P h.table.layout in
    (omega (arith, limits.0, h.table.most), omega (arith, limits.0, h.table.most, few_rooted (max_dist P) f.n 0 f.rows (omega arith) h.table.rows))

pub count_small : (P : ℕ) (content : Content) → IsContent P content → (place content).rows < 2 ^ 64 - 1
count_small P content h = (room P content h).1

root_capped : (n : ℕ) (root : Option ℕ) → n < 2 ^ 64 - 1 → root_fault n (capped_root root) ≡ root_fault n root
root_capped n None small = refl
root_capped n (Some root) small = range_capped 83 1 n root None None small (λ _. refl)

pub row_capped : (P : ℕ) (content : Content) (row : RowNumbers) → IsContent P content → row_fault P (place content) (capped_row row) ≡ row_fault P (place content) row
row_capped P content row h =
    let at = place content in
    let small = (room P content h).0 in
    range_capped 86 (at.last + 1) at.n row.vertex _ _ small (λ _. range_capped 68 0 (max_dist P) row.dist _ _ (maxima_small P (layout_of P content h)).1 (λ _. range_capped 80 0 at.n row.pred _ _ small (λ _. root_capped at.n row.root small)))

pub same_kind : (root : Option ℕ) → is_some (capped_root root) ≡ is_some root
same_kind None = refl
same_kind (Some root) = refl

root_within : (n : ℕ) (root : Option ℕ) → root_fault n root ≡ None → IsRootWithin n root
root_within n None none = tt
root_within n (Some root) none =
    let range = range_facts 83 1 n root None none in
    (range.0, range.1)

row_within : (P : ℕ) (at : RowProgress) (row : RowNumbers) → row_fault P at row ≡ None → IsRowWithin P at row
row_within P at row none =
    let first = range_facts 86 (at.last + 1) at.n row.vertex _ none in
    let second = range_facts 68 0 (max_dist P) row.dist _ first.2 in
    let third = range_facts 80 0 at.n row.pred _ second.2 in
    record { above = omega (arith, first.0); most = first.1; dist = second.1; pred = third.1; root = root_within at.n row.root third.2 }

root_none : (n : ℕ) (root : Option ℕ) → IsRootWithin n root → root_fault n root ≡ None
root_none n None h = refl
root_none n (Some root) h = range_ok 83 1 n root None h.0 h.1 refl

within_none : (P : ℕ) (at : RowProgress) (row : RowNumbers) → IsRowWithin P at row → row_fault P at row ≡ None
within_none P at row h =
    range_ok 86 (at.last + 1) at.n row.vertex _ (omega (arith, h.above)) h.most (range_ok 68 0 (max_dist P) row.dist _ (omega arith) h.dist (range_ok 80 0 at.n row.pred _ (omega arith) h.pred (root_none at.n row.root h.root)))

root_same : (n : ℕ) (root : Option ℕ) → n < 2 ^ 64 - 1 → IsRootWithin n root → (capped_root root ≡ root) × AreSmall (root_numbers root)
root_same n None small h = (refl, tt)
root_same n (Some root) small h = (ap (λ (r : ℕ). Some r) (small_same root (omega (arith, small, h.1))), (omega (arith, small, h.1), tt))

pub row_same : (P : ℕ) (content : Content) (row : RowNumbers) → IsContent P content → row_fault P (place content) row ≡ None → (capped_row row ≡ row) × AreSmall (numbers row)
row_same P content row h none =
    let small = (room P content h).0 in
    let within = row_within P (place content) row none in
    let vertex : row.vertex < 2 ^ 64 - 1 = omega (arith, within.most, small) in
    let dist : row.dist < 2 ^ 64 - 1 = omega (arith, within.dist, (maxima_small P (layout_of P content h)).1) in
    let pred : row.pred < 2 ^ 64 - 1 = omega (arith, within.pred, small) in
    let root = root_same (place content).n row.root small within.root in
    (rw (small_same row.vertex vertex, small_same row.dist dist, small_same row.pred pred, root.0) refl, (omega (arith, vertex), (omega (arith, dist), (omega (arith, pred), root.1))))

pub problem_small : (P : ℕ) (near : Bool) (n second : ℕ) → is_layout P ≡ true → problem_fault P near n second ≡ None → (n < 2 ^ 64 - 1) × (second < 2 ^ 64 - 1)
problem_small P near n second layout none =
    let first = range_facts 78 1 (max_pred P) n _ none in
    let later = range_facts (second_range near).0 (second_range near).1 n second None first.2 in
    (omega (arith, first.1, (maxima_small P layout).0), omega (arith, later.1, first.1, (maxima_small P layout).0))

-- 2. What lines without a fault make, a file may hold.

pub begun : (P : ℕ) (near : Bool) (n second : ℕ) → is_layout P ≡ true → problem_fault P near n second ≡ None → IsContent P (begin near n second)
begun P false n second layout none =
    let first = range_facts 78 1 (max_pred P) n _ none in
    let later = range_facts 83 1 n second None first.2 in
    record { layout = layout; least = first.0; most = first.1; source_least = later.0; source_most = later.1; rows = tt }
begun P true n second layout none =
    let first = range_facts 78 1 (max_pred P) n _ none in
    let later = range_facts 75 0 n second None first.2 in
    record { table = record { layout = layout; most = first.1; rows = tt }; least = first.0; sources_most = later.1 }

root_is : (n : ℕ) (root : Option ℕ) → IsRootWithin n root → is_some root ≡ true → IsVertex n (unwrap_or root 0)
root_is n None h some = cc
root_is n (Some root) h some = h

pub added : (P : ℕ) (content : Content) (row : RowNumbers) → IsContent P content → is_some row.root ≡ (place content).rooted → row_fault P (place content) row ≡ None → IsContent P (add content row)
added P (OfTree t) row h kind none =
    let within = row_within P (place (OfTree t)) row none in
    row_added P t.n t.source t.rows (t.rows ++ (row.vertex, Pair row.dist row.pred) ∷ []) row.vertex row.dist row.pred (Pair row.dist row.pred) h within.above within.most within.dist within.pred refl refl
added P (OfForest k f) row h kind none =
    let within = row_within P (place (OfForest k f)) row none in
    let root = unwrap_or row.root 0 in
    record {
      table = rooted_added P f.n f.rows (f.rows ++ (row.vertex, Pair row.dist row.pred, root) ∷ []) row.vertex row.dist row.pred root (Pair row.dist row.pred) h.table within.above within.most within.dist within.pred (root_is f.n row.root within.root kind) refl refl;
      least = h.least;
      sources_most = h.sources_most;
    }

-- 3. Their texts.

-- The text without the last line.
abbrev pub front : Content → List ℕ
front (OfTree t) = problem_text t.n t.source ++ flat_map row_text t.rows
front (OfForest k f) = near_text f.n k ++ flat_map rooted_row_text f.rows

-- the text of a content
abbrev pub whole_text : Content → List ℕ
whole_text content = front content ++ end_text (place content).rows

pub text_is : (content : Content) → content_text content ≡ whole_text content
unfolding tree_text file_text
text_is (OfTree t) = refl
text_is (OfForest k f) = refl

problem_is : (n source : ℕ) → problem_text n source ≡ (112 ∷ 32 ∷ 115 ∷ 112 ∷ 116 ∷ 32 ∷ (decimal n ++ 32 ∷ decimal source)) ++ 10 ∷ []
problem_is n source = simp append_assoc

near_is : (n sources : ℕ) → near_text n sources ≡ (112 ∷ 32 ∷ 110 ∷ 101 ∷ 97 ∷ 114 ∷ 32 ∷ (decimal n ++ 32 ∷ decimal sources)) ++ 10 ∷ []
near_is n sources = simp append_assoc

pub begun_text : (near : Bool) (n second : ℕ) → front (begin near n second) ≡ line_bytes (Problem near n second) ++ 10 ∷ []
begun_text false n second = append-nil (problem_text n second) ∙ problem_is n second
begun_text true n second = append-nil (near_text n second) ∙ near_is n second

tree_row : (v d p : ℕ) (root : Option ℕ) → is_some root ≡ false → reached_text v (Pair d p) ≡ line_bytes (Row (record { vertex = v; dist = d; pred = p; root = root })) ++ 10 ∷ []
tree_row v d p None kind = ap (λ (t : List ℕ). 118 ∷ 32 ∷ (t ++ 10 ∷ [])) (append_assoc (decimal v) (32 ∷ decimal d) (32 ∷ decimal p))
tree_row v d p (Some root) kind = cc

forest_row : (v d p : ℕ) (root : Option ℕ) → is_some root ≡ true → rooted_text v (Pair d p) (unwrap_or root 0) ≡ line_bytes (Row (record { vertex = v; dist = d; pred = p; root = root })) ++ 10 ∷ []
forest_row v d p None kind = cc
forest_row v d p (Some root) kind = ap (λ (t : List ℕ). 118 ∷ 32 ∷ (t ++ 10 ∷ []))
    (append_assoc (decimal v ++ 32 ∷ decimal d) (32 ∷ decimal p) (32 ∷ decimal root) ∙ append_assoc (decimal v) (32 ∷ decimal d) (32 ∷ (decimal p ++ 32 ∷ decimal root)))

pub added_text : (content : Content) (row : RowNumbers) → is_some row.root ≡ (place content).rooted → front (add content row) ≡ front content ++ (line_bytes (Row row) ++ 10 ∷ [])
added_text (OfTree t) row kind =
    sym (flat_map_more row_text (problem_text t.n t.source) t.rows (row.vertex, Pair row.dist row.pred)) ∙ ap (λ (x : List ℕ). front (OfTree t) ++ x) (tree_row row.vertex row.dist row.pred row.root kind)
added_text (OfForest k f) row kind =
    sym (flat_map_more rooted_row_text (near_text f.n k) f.rows (row.vertex, Pair row.dist row.pred, unwrap_or row.root 0)) ∙ ap (λ (x : List ℕ). front (OfForest k f) ++ x) (forest_row row.vertex row.dist row.pred row.root kind)

-- 4. Each is made of its first line and its rows.

-- A content with more rows, each without a fault.
unfoldable pub adds : Content → List RowNumbers → Content
adds content [] = content
adds content (row ∷ more) = adds (add content row) more

abbrev pub AreAdded : (P : ℕ) → Content → List RowNumbers → Type 0
AreAdded P content [] = Unit {0}
AreAdded P content (row ∷ more) = (is_some row.root ≡ (place content).rooted) × (row_fault P (place content) row ≡ None) × AreAdded P (add content row) more

pub record IsMade (P : ℕ) (content : Content) : Type 0 where
  pub layout : is_layout P ≡ true
  pub n : ℕ
  pub second : ℕ
  pub rows : List RowNumbers
  pub first_none : problem_fault P (place content).rooted n second ≡ None
  pub rows_none : AreAdded P (begin (place content).rooted n second) rows
  pub is : adds (begin (place content).rooted n second) rows ≡ content

row_from : ℕ × Word → RowNumbers
row_from (v, Unreached) = record { vertex = v; dist = 0; pred = 0; root = None }
row_from (v, Pair d p) = record { vertex = v; dist = d; pred = p; root = None }

rooted_from : TableRow → RowNumbers
rooted_from (v, Unreached, r) = record { vertex = v; dist = 0; pred = 0; root = Some r }
rooted_from (v, Pair d p, r) = record { vertex = v; dist = d; pred = p; root = Some r }

last_push : (last : ℕ) (rows : List (ℕ × Word)) (row : ℕ × Word) → last_after last (rows ++ row ∷ []) ≡ row.0
last_push last [] row = refl
last_push last (x ∷ more) row = last_push x.0 more row

last_rooted_push : (last : ℕ) (rows : List TableRow) (row : TableRow) → last_rooted_after last (rows ++ row ∷ []) ≡ row.0
last_rooted_push last [] row = refl
last_rooted_push last (x ∷ more) row = last_rooted_push x.0 more row

abbrev with_rows : TreeTable → List (ℕ × Word) → Content
with_rows t rows = OfTree (record { n = t.n; source = t.source; rows = rows })

rows_made : (P : ℕ) (t : TreeTable) (rows : List (ℕ × Word)) → AreRows (max_dist P) t.n (last_vertex t.rows) rows
    → AreAdded P (OfTree t) (map row_from rows) × (adds (OfTree t) (map row_from rows) ≡ with_rows t (t.rows ++ rows))
unfolding adds row_from
rows_made P t [] are = (tt, ap (with_rows t) (sym (append-nil t.rows)))
rows_made P t ((v, Unreached) ∷ more) are = absurd are.2
rows_made P t ((v, Pair d p) ∷ more) are =
    let own = within_none P (place (OfTree t)) (record { vertex = v; dist = d; pred = p; root = None }) (record { above = are.0; most = are.1; dist = are.2.0; pred = are.2.1; root = tt }) in
    let later = rows_made P (with_row t v d p) more (rw (last_push 0 t.rows (v, Pair d p)) are.3) in
    ((refl, own, later.0), later.1 ∙ ap (with_rows t) (append_assoc t.rows ((v, Pair d p) ∷ []) more))

abbrev with_rooted : ℕ → ForestTable → List TableRow → Content
with_rooted k f rows = OfForest k (record { n = f.n; rows = rows })

rooted_made : (P k : ℕ) (f : ForestTable) (rows : List TableRow) → AreRootedRows (max_dist P) f.n (last_rooted f.rows) rows
    → AreAdded P (OfForest k f) (map rooted_from rows) × (adds (OfForest k f) (map rooted_from rows) ≡ with_rooted k f (f.rows ++ rows))
unfolding adds rooted_from
rooted_made P k f [] are = (tt, ap (with_rooted k f) (sym (append-nil f.rows)))
rooted_made P k f ((v, Unreached, r) ∷ more) are = absurd are.2
rooted_made P k f ((v, Pair d p, r) ∷ more) are =
    let own = within_none P (place (OfForest k f)) (record { vertex = v; dist = d; pred = p; root = Some r }) (record { above = are.0; most = are.1; dist = are.2.0; pred = are.2.1; root = are.3 }) in
    let later = rooted_made P k (with_rooted_row f v d p r) more (rw (last_rooted_push 0 f.rows (v, Pair d p, r)) are.4) in
    ((refl, own, later.0), later.1 ∙ ap (with_rooted k f) (append_assoc f.rows ((v, Pair d p, r) ∷ []) more))

pub made_of : (P : ℕ) (content : Content) → IsContent P content → IsMade P content
made_of P (OfTree t) h =
    let rows = rows_made P (record { n = t.n; source = t.source; rows = [] }) t.rows h.rows in
    record {
      layout = h.layout;
      n = t.n;
      second = t.source;
      rows = map row_from t.rows;
      first_none = range_ok 78 1 (max_pred P) t.n _ h.least h.most (range_ok 83 1 t.n t.source None h.source_least h.source_most refl);
      rows_none = rows.0;
      is = rows.1;
    }
made_of P (OfForest k f) h =
    let rows = rooted_made P k (record { n = f.n; rows = [] }) f.rows h.table.rows in
    record {
      layout = h.table.layout;
      n = f.n;
      second = k;
      rows = map rooted_from f.rows;
      first_none = range_ok 78 1 (max_pred P) f.n _ h.least h.table.most (range_ok 75 0 f.n k None (omega arith) h.sources_most refl);
      rows_none = rows.0;
      is = rows.1;
    }
