-- What is spelled is within the limits of the layout.
use Rattle.std.proofs.Common.{◌≡◌, ℕ, zero, suc, ◌+◌, ◌≤◌, Bool, true, false, ◌&&◌, cond, leb, List, [], ◌∷◌, length, map, Option, Some, None, Result, Ok, Err, refl, arith}
use Rattle.std.specs.Prelude.{slice_get, slice_index, All, IfOk, ◌==◌}
use Rattle.std.specs.List.{AllByRecursion}
use Rattle.std.proofs.lemmas.Bool.{leb-true}
use Rattle.std.proofs.lemmas.List.{length-map}
use Rattle.std.proofs.lemmas.List.Sums.{sum_by-cons}
use Rattle.std.proofs.lemmas.List.Elements.{All-map, All-weaker, recursion_from_All}
use Rattle.sp_word.specs.Word.{max_pred}
use Rattle.sp_text.specs.declared.faults.DimacsError.{DimacsError}
use Rattle.sp_text.specs.declared.formats.Top.TheVariants.{Number, Vertex, Problem}
use Rattle.sp_text.specs.declared.formats.Ranges.{Ranges}
use Rattle.sp_text.specs.declared.formats.Field.{Field}
use Rattle.sp_text.specs.Formats.{LineForm, Format, field, ranges_of}
use Rattle.sp_text.specs.Lines.{lines}
use Rattle.sp_text.specs.Text.{ItemLine, judge, first_out, top, count, items_of}
use Rattle.sp_text.specs.Accepted.{IsAllowed, IsAccepted}
use Rattle.sp_text.specs.Collecting.{SpelledBy}
use Rattle.sp_text.specs.Whole.{IsSpelled}
use Rattle.sp_text.proofs.FaultlessText.{accepted}
use Rattle.sp_dimacs.specs.Formats.{gr_up_to, ss, pairs, arc_line, source_line, pair_line}
use Rattle.sp_dimacs.specs.declared.graphs.GrFile.{GrFile}
use Rattle.sp_dimacs.specs.declared.sources.SsFile.{SsFile}
use Rattle.sp_dimacs.specs.declared.pairs.PairsFile.{PairsFile}
use Rattle.sp_dimacs.specs.Graph.{arc_of, IsGraph, IsNetworkUpTo}
use Rattle.sp_paths.specs.Paths.{IsArc}
use Rattle.sp_dimacs.specs.Sources.{source_of, AreSources, IsVertex, AreSourcesWithin}
use Rattle.sp_dimacs.specs.Pairs.{pair_of, ArePairs, IsPairWithin, ArePairsWithin}

if_ok : {A E : Type 0} (P Q : A → Type 0) (r : Result A E) → ((x : A) → P x → Q x) → IfOk r P → IfOk r Q
if_ok P Q (Ok x) more h = more x h
if_ok P Q (Err e) more h = tt

-- 1. Numbers in their ranges.

both_true : (a b : Bool) (x : Option ℕ) (y : ℕ) → cond (a && b) x (Some y) ≡ None → (a ≡ true) × (b ≡ true) × (x ≡ None)
both_true true true x y h = (refl, refl, h)
both_true true false x y h = cc
both_true false b x y h = cc

-- The first number is in its range, and so are the others.
abbrev IsFirstIn : Ranges → List ℕ → Field → List Field → ℕ → List ℕ → Type 0
IsFirstIn ranges ps d ds n ns = (d.least ≤ n) × (n ≤ top ranges ps d.most) × (first_out ranges ps ds ns ≡ None)

first_in : (ranges : Ranges) (ps : List ℕ) (d : Field) (ds : List Field) (n : ℕ) (ns : List ℕ) → first_out ranges ps (d ∷ ds) (n ∷ ns) ≡ None → IsFirstIn ranges ps d ds n ns
first_in ranges ps d ds n ns h =
    let parts = both_true (leb d.least n) (leb n (top ranges ps d.most)) (first_out ranges ps ds ns) d.letter h in
    (leb-true d.least n parts.0, leb-true n (top ranges ps d.most) parts.1, parts.2)

-- 2. Items of the one form.

only_form : (form other : LineForm) (k : ℕ) → slice_get (form ∷ []) k ≡ Some other → other ≡ form
only_form form other zero h = cc
only_form form other (suc k) h = cc

has_form : (format : Format) (form : LineForm) (ranges : Ranges) (ps : List ℕ) (item : ItemLine) → format.items ≡ form ∷ [] → IsAllowed format ranges ps item → item.form ≡ form
has_form format form ranges ps item one h = only_form form item.form item.kind (rw one at h.form)

count_all : (form : LineForm) (items : List ItemLine) → form.group ≡ 0 → AllByRecursion (λ item. item.form ≡ form) items → length items ≤ count 0 items
count_all form [] none h = omega arith
count_all form (item ∷ items) none h =
    let same : item.form.group ≡ 0 = rw h.0 none in
    let weight : ItemLine → ℕ = λ x. cond (x.form.group == 0) 1 0 in
    let step : count 0 (item ∷ items) ≡ weight item + count 0 items = sum_by-cons weight item items in
    let one : weight item ≡ 1 = rw same refl in
    omega (arith, step, one, count_all form items none h.1)

-- No more items of the one form stand than the limit.
short_list : (format : Format) (form : LineForm) (ranges : Ranges) (ps : List ℕ) (items : List ItemLine) → format.items ≡ form ∷ [] → form.group ≡ 0 → IsAccepted format ranges ps items → length items ≤ top ranges ps form.limit
short_list format form ranges ps items one none h =
    let all : All (λ (item : ItemLine). item.form ≡ form) items = All-weaker (IsAllowed format ranges ps) (λ (item : ItemLine). item.form ≡ form) (λ item allowed. has_form format form ranges ps item one allowed) items h.allowed in
    let many = count_all form items none (recursion_from_All (λ (item : ItemLine). item.form ≡ form) items all) in
    let few = h.bounded 0 form.limit (rw one (λ e. refl, tt)) in
    omega arith

-- 3. Graphs.

gr_numbers : (P most : ℕ) (ps : List ℕ) → length ps ≡ 2 → first_out (ranges_of P) [] (gr_up_to most).problem.fields ps ≡ None → (1 ≤ slice_index ps 0) × (slice_index ps 0 ≤ max_pred P) × (slice_index ps 1 ≤ most)
gr_numbers P most [] full h = absurd (omega arith)
gr_numbers P most (n ∷ []) full h = absurd (omega arith)
gr_numbers P most (n ∷ m ∷ []) full h =
    let first = first_in (ranges_of P) [] (field 78 1 Vertex) (field 77 0 (Number most) ∷ []) n (m ∷ []) h in
    let second = first_in (ranges_of P) [] (field 77 0 (Number most)) [] m [] first.2 in
    (first.0, first.1, second.1)
gr_numbers P most (n ∷ m ∷ k ∷ ps) full h = absurd (omega arith)

arc_numbers : (P : ℕ) (ps ns : List ℕ) → length ns ≡ 3 → first_out (ranges_of P) ps arc_line.fields ns ≡ None → IsArc (slice_index ps 0) (record { tail = slice_index ns 0; head = slice_index ns 1; len = slice_index ns 2 })
arc_numbers P ps [] full h = absurd (omega arith)
arc_numbers P ps (u ∷ []) full h = absurd (omega arith)
arc_numbers P ps (u ∷ v ∷ []) full h = absurd (omega arith)
arc_numbers P ps (u ∷ v ∷ w ∷ []) full h =
    let tail = first_in (ranges_of P) ps (field 85 1 (Problem 0)) (field 86 1 (Problem 0) ∷ field 87 1 (Number 4294967295) ∷ []) u (v ∷ w ∷ []) h in
    let head = first_in (ranges_of P) ps (field 86 1 (Problem 0)) (field 87 1 (Number 4294967295) ∷ []) v (w ∷ []) tail.2 in
    let len = first_in (ranges_of P) ps (field 87 1 (Number 4294967295)) [] w [] head.2 in
    ((tail.0, tail.1), (head.0, head.1), len.0)
arc_numbers P ps (u ∷ v ∷ w ∷ x ∷ ns) full h = absurd (omega arith)

arc_allowed : (P most : ℕ) (ps : List ℕ) (item : ItemLine) → IsAllowed (gr_up_to most) (ranges_of P) ps item → IsArc (slice_index ps 0) (arc_of item)
arc_allowed P most ps item h =
    let is : item.form ≡ arc_line = has_form (gr_up_to most) arc_line (ranges_of P) ps item refl h in
    arc_numbers P ps item.numbers (rw is at h.full) (rw is at h.in_range)

network : (P most : ℕ) (ps : List ℕ) (items : List ItemLine) (file : GrFile) → IsAccepted (gr_up_to most) (ranges_of P) ps items → IsGraph ps items file → IsNetworkUpTo P most file
network P most ps items file h is =
    let numbers = gr_numbers P most ps h.full h.in_range in
    let few = short_list (gr_up_to most) arc_line (ranges_of P) ps items refl refl h in
    let within : All (IsArc (slice_index ps 0)) (map arc_of items) = All-map (IsArc (slice_index ps 0)) arc_of items (All-weaker (IsAllowed (gr_up_to most) (ranges_of P) ps) (λ (item : ItemLine). IsArc (slice_index ps 0) (arc_of item)) (arc_allowed P most ps) items h.allowed) in
    record {
      least = rw is.0 numbers.0;
      most = rw is.0 numbers.1;
      short = rw (is.1, length-map items arc_of) (omega (arith, numbers.2, few));
      arcs = rw (is.0, is.1) within;
    }

pub graph_within : (P most : ℕ) (file : GrFile) → IsSpelled (judge (gr_up_to most) (ranges_of P)) (SpelledBy (gr_up_to most) IsGraph) file → IsNetworkUpTo P most file
graph_within P most file (text, clean, (ps, found, is)) =
    network P most ps (items_of (gr_up_to most) (lines text)) file (accepted (gr_up_to most) (ranges_of P) text ps (items_of (gr_up_to most) (lines text)) (record { faultless = clean; problem_line = found; item_lines = refl })) is

pub graph_read : (P most : ℕ) (r : Result GrFile DimacsError) → IfOk r (IsSpelled (judge (gr_up_to most) (ranges_of P)) (SpelledBy (gr_up_to most) IsGraph)) → IfOk r (IsNetworkUpTo P most)
graph_read P most r h = if_ok (IsSpelled (judge (gr_up_to most) (ranges_of P)) (SpelledBy (gr_up_to most) IsGraph)) (IsNetworkUpTo P most) r (graph_within P most) h

-- 4. Lists of sources.

count_numbers : (P : ℕ) (ps : List ℕ) → length ps ≡ 1 → first_out (ranges_of P) [] ss.problem.fields ps ≡ None → slice_index ps 0 ≤ 1048576
count_numbers P [] full h = absurd (omega arith)
count_numbers P (k ∷ []) full h = (first_in (ranges_of P) [] (field 75 0 (Number 1048576)) [] k [] h).1
count_numbers P (k ∷ m ∷ ps) full h = absurd (omega arith)

source_numbers : (P : ℕ) (ps ns : List ℕ) → length ns ≡ 1 → first_out (ranges_of P) ps source_line.fields ns ≡ None → IsVertex P (slice_index ns 0)
source_numbers P ps [] full h = absurd (omega arith)
source_numbers P ps (v ∷ []) full h =
    let only = first_in (ranges_of P) ps (field 86 1 Vertex) [] v [] h in
    record { least = only.0; most = only.1 }
source_numbers P ps (v ∷ w ∷ ns) full h = absurd (omega arith)

source_allowed : (P : ℕ) (ps : List ℕ) (item : ItemLine) → IsAllowed ss (ranges_of P) ps item → IsVertex P (source_of item)
source_allowed P ps item h =
    let is : item.form ≡ source_line = has_form ss source_line (ranges_of P) ps item refl h in
    source_numbers P ps item.numbers (rw is at h.full) (rw is at h.in_range)

source_list : (P : ℕ) (ps : List ℕ) (items : List ItemLine) (file : SsFile) → IsAccepted ss (ranges_of P) ps items → AreSources ps items file → AreSourcesWithin P file
source_list P ps items file h is =
    let most = count_numbers P ps h.full h.in_range in
    let few = short_list ss source_line (ranges_of P) ps items refl refl h in
    let within : All (IsVertex P) (map source_of items) = All-map (IsVertex P) source_of items (All-weaker (IsAllowed ss (ranges_of P) ps) (λ (item : ItemLine). IsVertex P (source_of item)) (source_allowed P ps) items h.allowed) in
    record { short = rw (is, length-map items source_of) (omega (arith, most, few)); sources = rw is within }

pub sources_within : (P : ℕ) (file : SsFile) → IsSpelled (judge ss (ranges_of P)) (SpelledBy ss AreSources) file → AreSourcesWithin P file
sources_within P file (text, clean, (ps, found, is)) =
    source_list P ps (items_of ss (lines text)) file (accepted ss (ranges_of P) text ps (items_of ss (lines text)) (record { faultless = clean; problem_line = found; item_lines = refl })) is

pub sources_read : (P : ℕ) (r : Result SsFile DimacsError) → IfOk r (IsSpelled (judge ss (ranges_of P)) (SpelledBy ss AreSources)) → IfOk r (AreSourcesWithin P)
sources_read P r h = if_ok (IsSpelled (judge ss (ranges_of P)) (SpelledBy ss AreSources)) (AreSourcesWithin P) r (sources_within P) h

-- 5. Lists of pairs.

pair_numbers : (P : ℕ) (ps ns : List ℕ) → length ns ≡ 2 → first_out (ranges_of P) ps pair_line.fields ns ≡ None → IsPairWithin P (slice_index ns 0, slice_index ns 1)
pair_numbers P ps [] full h = absurd (omega arith)
pair_numbers P ps (s ∷ []) full h = absurd (omega arith)
pair_numbers P ps (s ∷ t ∷ []) full h =
    let source = first_in (ranges_of P) ps (field 83 1 Vertex) (field 84 1 Vertex ∷ []) s (t ∷ []) h in
    let target = first_in (ranges_of P) ps (field 84 1 Vertex) [] t [] source.2 in
    record { source_least = source.0; source_most = source.1; target_least = target.0; target_most = target.1 }
pair_numbers P ps (s ∷ t ∷ u ∷ ns) full h = absurd (omega arith)

pair_allowed : (P : ℕ) (ps : List ℕ) (item : ItemLine) → IsAllowed pairs (ranges_of P) ps item → IsPairWithin P (pair_of item)
pair_allowed P ps item h =
    let is : item.form ≡ pair_line = has_form pairs pair_line (ranges_of P) ps item refl h in
    pair_numbers P ps item.numbers (rw is at h.full) (rw is at h.in_range)

pair_list : (P : ℕ) (ps : List ℕ) (items : List ItemLine) (file : PairsFile) → IsAccepted pairs (ranges_of P) ps items → ArePairs ps items file → ArePairsWithin P file
pair_list P ps items file h is =
    let most = count_numbers P ps h.full h.in_range in
    let few = short_list pairs pair_line (ranges_of P) ps items refl refl h in
    let within : All (IsPairWithin P) (map pair_of items) = All-map (IsPairWithin P) pair_of items (All-weaker (IsAllowed pairs (ranges_of P) ps) (λ (item : ItemLine). IsPairWithin P (pair_of item)) (pair_allowed P ps) items h.allowed) in
    record { short = rw (is, length-map items pair_of) (omega (arith, most, few)); pairs = rw is within }

pub pairs_within : (P : ℕ) (file : PairsFile) → IsSpelled (judge pairs (ranges_of P)) (SpelledBy pairs ArePairs) file → ArePairsWithin P file
pairs_within P file (text, clean, (ps, found, is)) =
    pair_list P ps (items_of pairs (lines text)) file (accepted pairs (ranges_of P) text ps (items_of pairs (lines text)) (record { faultless = clean; problem_line = found; item_lines = refl })) is

pub pairs_read : (P : ℕ) (r : Result PairsFile DimacsError) → IfOk r (IsSpelled (judge pairs (ranges_of P)) (SpelledBy pairs ArePairs)) → IfOk r (ArePairsWithin P)
pairs_read P r h = if_ok (IsSpelled (judge pairs (ranges_of P)) (SpelledBy pairs ArePairs)) (ArePairsWithin P) r (pairs_within P) h
