-- What holds of a text without a fault, line by line.
use Rattle.std.proofs.Common.{⊎_elim, ◌≡◌, ◌≢◌, ℕ, zero, suc, ◌+◌, ◌<◌, ◌≤◌, ◌⊎◌, Bool, true, false, cond, eqb, leb, ltb, List, [], ◌∷◌, ◌++◌, length, Option, Some, None, refl, sym, ap, subst, ◌∙◌, inl, inr, append_assoc, add-zero, arith}
use Rattle.std.specs.Prelude.{slice_get, All}
use Rattle.std.specs.List.{AllByRecursion}
use Rattle.std.proofs.lemmas.Bool.{eq-eqb, ne_eqb, cases_eq, leb-false, ltb-false}
use Rattle.std.proofs.lemmas.List.{append-nil}
use Rattle.std.proofs.lemmas.List.Elements.{All-nil, All-push}
use Rattle.sp_text.specs.declared.faults.Kind.{Kind}
use Rattle.sp_text.specs.declared.faults.Kind.TheVariants.{TooMany, TooFew}
use Rattle.sp_text.specs.declared.faults.DimacsError.{DimacsError}
use Rattle.sp_text.specs.declared.formats.Top.{Top}
use Rattle.sp_text.specs.declared.formats.Ranges.{Ranges}
use Rattle.sp_text.specs.declared.formats.Field.{Field}
use Rattle.sp_text.specs.Lines.{lines, fields, is_number, value}
use Rattle.sp_text.specs.Formats.{LineForm, Format}
use Rattle.sp_text.specs.First.{or_at, or_else, or_kind, size_fault, line_fault, first_after, first_fault, fault_at_end}
use Rattle.sp_text.specs.Text.{with_number, numbers, is_word, behind_words, of_form, is_comment, ItemLine, Reading, Comment, Bad, IsProblem, IsItem, item_or, item_reading, problem_or, reading_of, reading, problem_of, items_of, items_first, top, first_out, out_or, letter_or, item_out, count, too_many, reading_fault, fault, missing_of, missing, judge, Spells}
use Rattle.sp_text.specs.Accepted.{IsAllowed, IsAccepted}
use Rattle.sp_text.proofs.KeptLine.{problem_last, problem_push, items_push, count_push}

-- 1. A line has the numbers of its form.

cond_some : {A : Type 0} (b : Bool) (x : Option A) (y : A) → cond b x None ≡ Some y → x ≡ Some y
cond_some true x y h = h
cond_some false x y h = cc

with_some : (n : ℕ) (found : Option (List ℕ)) (ns : List ℕ) → with_number n found ≡ Some ns → (ms : List ℕ) × (found ≡ Some ms) × (ns ≡ n ∷ ms)
with_some n None ns h = cc
with_some n (Some ms) ns h = let e : n ∷ ms ≡ ns = cc in (ms, refl, sym e)

numbers_full : (ds : List Field) (line : List (List ℕ)) (ns : List ℕ) → numbers ds line ≡ Some ns → length ns ≡ length ds
numbers_full [] [] ns h = let e : ns ≡ [] = cc in rw e refl
numbers_full [] (field ∷ more) ns h = cc
numbers_full (d ∷ ds) [] ns h = cc
numbers_full (d ∷ ds) (field ∷ more) ns h =
    let parts = with_some (value field) (numbers ds more) ns (cond_some (is_number field) (with_number (value field) (numbers ds more)) ns h) in
    rw parts.2 (ap suc (numbers_full ds more parts.0 parts.1))

words_full : (words : List (List ℕ)) (ds : List Field) (line : List (List ℕ)) (ns : List ℕ) → behind_words words ds line ≡ Some ns → length ns ≡ length ds
words_full [] ds line ns h = numbers_full ds line ns h
words_full (word ∷ words) ds [] ns h = cc
words_full (word ∷ words) ds (field ∷ more) ns h = words_full words ds more ns (cond_some (is_word word field) (behind_words words ds more) ns h)

form_full : (form : LineForm) (line : List (List ℕ)) (ns : List ℕ) → of_form form line ≡ Some ns → length ns ≡ length form.fields
unfolding of_form
form_full form line ns h = words_full form.words form.fields line ns h

-- The item has the form at its place among these, of which the first has place k.
abbrev HasForm : ℕ → List LineForm → ItemLine → Type 0
HasForm k forms item = (j : ℕ) × (item.kind ≡ k + j) × (slice_get forms j ≡ Some item.form) × (length item.numbers ≡ length item.form.fields)

form_later : (k : ℕ) (form : LineForm) (forms : List LineForm) (item : ItemLine) → HasForm (k + 1) forms item → HasForm k (form ∷ forms) item
form_later k form forms item (j, kind, is, full) = (suc j, omega arith, is, full)

form_here : (k : ℕ) (form : LineForm) (forms : List LineForm) (ns : List ℕ) (item : ItemLine) → length ns ≡ length form.fields → IsItem (record { kind = k; form = form; numbers = ns }) ≡ IsItem item → HasForm k (form ∷ forms) item
form_here k form forms ns item full is =
    let e : item ≡ record { kind = k; form = form; numbers = ns } = cc in
    (0, ap (λ (i : ItemLine). i.kind) e ∙ sym (add-zero k), rw e refl, rw e full)

by_form : (found : Option (List ℕ)) (k : ℕ) (form : LineForm) (forms : List LineForm) (line : List (List ℕ)) (later : Reading) (item : ItemLine) → of_form form line ≡ found → item_or k form found later ≡ IsItem item → (later ≡ IsItem item → HasForm (k + 1) forms item) → HasForm k (form ∷ forms) item
by_form None k form forms line later item found is more = form_later k form forms item (more is)
by_form (Some ns) k form forms line later item found is more = form_here k form forms ns item (form_full form line ns found) is

item_formed : (k : ℕ) (forms : List LineForm) (line : List (List ℕ)) (item : ItemLine) → item_reading k forms line ≡ IsItem item → HasForm k forms item
item_formed k [] line item h = cc
item_formed k (form ∷ forms) line item h = by_form (of_form form line) k form forms line (item_reading (k + 1) forms line) item refl h (item_formed (k + 1) forms line item)

or_problem : (found : Option (List ℕ)) (k : ℕ) (form : LineForm) (later : Reading) (ns : List ℕ) → item_or k form found later ≡ IsProblem ns → later ≡ IsProblem ns
or_problem None k form later ns h = h
or_problem (Some ms) k form later ns h = cc

no_problem : (k : ℕ) (forms : List LineForm) (line : List (List ℕ)) (ns : List ℕ) → item_reading k forms line ≡ IsProblem ns → ⊥
no_problem k [] line ns h = cc
no_problem k (form ∷ forms) line ns h = no_problem (k + 1) forms line ns (or_problem (of_form form line) k form (item_reading (k + 1) forms line) ns h)

abbrev IsFormed : Format → Reading → Type 0
IsFormed format Comment = Unit {0}
IsFormed format Bad = Unit {0}
IsFormed format (IsProblem ns) = length ns ≡ length format.problem.fields
IsFormed format (IsItem item) = (slice_get format.items item.kind ≡ Some item.form) × (length item.numbers ≡ length item.form.fields)

same_place : (format : Format) (item : ItemLine) → HasForm 0 format.items item → IsFormed format (IsItem item)
same_place format item (j, kind, is, full) =
    let place : item.kind ≡ j = omega arith in
    (rw place is, full)

item_or_comment : (comment : Bool) (found : Option (List ℕ)) (other : Reading) (item : ItemLine) → cond comment Comment (problem_or found other) ≡ IsItem item → other ≡ IsItem item
item_or_comment true found other item h = cc
item_or_comment false None other item h = h
item_or_comment false (Some ns) other item h = cc

problem_or_comment : (comment : Bool) (found : Option (List ℕ)) (other : Reading) (ns : List ℕ) → cond comment Comment (problem_or found other) ≡ IsProblem ns → (found ≡ Some ns) ⊎ (other ≡ IsProblem ns)
problem_or_comment true found other ns h = cc
problem_or_comment false None other ns h = inr h
problem_or_comment false (Some ms) other ns h = let e : ms ≡ ns = cc in inl (ap (λ (n : List ℕ). Some n) e)

formed_as : (format : Format) (line : List (List ℕ)) (r : Reading) → reading_of format line ≡ r → IsFormed format r
unfolding reading_of
formed_as format line Comment h = tt
formed_as format line Bad h = tt
formed_as format line (IsProblem ns) h = ⊎_elim
    (λ (found : of_form format.problem line ≡ Some ns). form_full format.problem line ns found)
    (λ (other : item_reading 0 format.items line ≡ IsProblem ns). absurd (no_problem 0 format.items line ns other))
    (problem_or_comment (is_comment line) (of_form format.problem line) (item_reading 0 format.items line) ns h)
formed_as format line (IsItem item) h =
    same_place format item (item_formed 0 format.items line item (item_or_comment (is_comment line) (of_form format.problem line) (item_reading 0 format.items line) item h))

formed : (format : Format) (line : List ℕ) → IsFormed format (reading format line)
unfolding reading
formed format line = formed_as format (fields line) (reading_of format (fields line)) refl

-- 2. What holds behind lines without a fault.

record Good (format : Format) (ranges : Ranges) (ps : List ℕ) (items : List ItemLine) : Type 0 where
  full : length ps ≡ length format.problem.fields
  in_range : first_out ranges [] format.problem.fields ps ≡ None
  allowed : All (IsAllowed format ranges ps) items
  bounded : (group : ℕ) (limit : Top) → AllByRecursion (λ (form : LineForm). form.group ≡ group → form.limit ≡ limit) format.items → count group items ≤ top ranges ps limit

abbrev Stands : Format → Ranges → Option (List ℕ) → List ItemLine → Type 0
Stands format ranges None items = items ≡ []
Stands format ranges (Some ps) items = Good format ranges ps items

out_none : (out : Option ℕ) (later : Option Kind) → out_or out later ≡ None → (out ≡ None) × (later ≡ None)
out_none None later h = (refl, h)
out_none (Some letter) later h = cc

letter_none : (named out : Option ℕ) → letter_or named out ≡ None → out ≡ None
letter_none None out h = h
letter_none (Some letter) out h = cc

not_full : (b : Bool) → cond b (Some TooMany) None ≡ None → b ≡ false
not_full true h = cc
not_full false h = refl

form_holds : (P : LineForm → Type 0) (forms : List LineForm) (place : ℕ) (form : LineForm) → AllByRecursion P forms → slice_get forms place ≡ Some form → P form
form_holds P [] zero form all is = cc
form_holds P [] (suc place) form all is = cc
form_holds P (f ∷ forms) zero form all is = let same : f ≡ form = cc in subst P same all.0
form_holds P (f ∷ forms) (suc place) form all is = form_holds P forms place form all.1 is

good_start : (format : Format) (ranges : Ranges) (ps : List ℕ) → length ps ≡ length format.problem.fields → first_out ranges [] format.problem.fields ps ≡ None → Good format ranges ps []
good_start format ranges ps full none = record {
  full = full;
  in_range = none;
  allowed = All-nil (IsAllowed format ranges ps);
  bounded = λ group limit all. omega arith;
}

bounded_push : (format : Format) (ranges : Ranges) (ps : List ℕ) (items : List ItemLine) (item : ItemLine) (group : ℕ) (limit : Top) → slice_get format.items item.kind ≡ Some item.form → count item.form.group items < top ranges ps item.form.limit
    → AllByRecursion (λ (form : LineForm). form.group ≡ group → form.limit ≡ limit) format.items → count group items ≤ top ranges ps limit → count group (items ++ item ∷ []) ≤ top ranges ps limit
bounded_push format ranges ps items item group limit is more all bound = ⊎_elim
    (λ (same : item.form.group ≡ group).
    let its : item.form.limit ≡ limit = form_holds (λ (form : LineForm). form.group ≡ group → form.limit ≡ limit) format.items item.kind item.form all is same in
    let less : count group items < top ranges ps limit = rw same at (rw its at more) in
    let one : eqb item.form.group group ≡ true = eq-eqb item.form.group group same in
    let longer : count group (items ++ item ∷ []) ≡ count group items + 1 = count_push group items item ∙ rw one refl in
    omega arith)
    (λ (other : item.form.group ≢ group).
    let none : eqb item.form.group group ≡ false = ne_eqb item.form.group group other in
    let same : count group (items ++ item ∷ []) ≡ count group items + 0 = count_push group items item ∙ rw none refl in
    omega arith)
    (cases_eq item.form.group group)

good_push : (format : Format) (ranges : Ranges) (ps : List ℕ) (items : List ItemLine) (item : ItemLine) → Good format ranges ps items → IsFormed format (IsItem item) → out_or (item_out ranges ps items item) (too_many ranges ps items item) ≡ None → Good format ranges ps (items ++ item ∷ [])
good_push format ranges ps items item h formed none =
    let parts = out_none (item_out ranges ps items item) (too_many ranges ps items item) none in
    let fits = letter_none _ (first_out ranges ps item.form.fields item.numbers) parts.0 in
    let more = leb-false (top ranges ps item.form.limit) (count item.form.group items) (not_full (leb (top ranges ps item.form.limit) (count item.form.group items)) parts.1) in
    record {
      full = h.full;
      in_range = h.in_range;
      allowed = All-push (IsAllowed format ranges ps) items item h.allowed (record { form = formed.0; full = formed.1; in_range = fits });
      bounded = λ group limit all. bounded_push format ranges ps items item group limit formed.0 more all (h.bounded group limit all);
    }

step : (format : Format) (ranges : Ranges) (problem : Option (List ℕ)) (items : List ItemLine) (r : Reading) → Stands format ranges problem items → IsFormed format r → reading_fault format ranges problem items r ≡ None → Stands format ranges (problem_last problem r) (items ++ items_first r [])
unfolding problem_last
step format ranges None items Comment h formed none = append-nil items ∙ h
step format ranges (Some ps) items Comment h formed none = subst (Good format ranges ps) (sym (append-nil items)) h
step format ranges problem items Bad h formed none = cc
step format ranges None items (IsProblem ns) h formed none =
    subst (Good format ranges ns) (sym (append-nil items ∙ h)) (good_start format ranges ns formed (out_none (first_out ranges [] format.problem.fields ns) None none).0)
step format ranges (Some ps) items (IsProblem ns) h formed none = cc
step format ranges None items (IsItem item) h formed none = cc
step format ranges (Some ps) items (IsItem item) h formed none = good_push format ranges ps items item h formed none

-- Where of several faults none stands, there is none.

pub at_none : (n : ℕ) (kind : Option Kind) (later : Option DimacsError) → or_at n kind later ≡ None → (kind ≡ None) × (later ≡ None)
at_none n None later h = (refl, h)
at_none n (Some kind) later h = cc

pub kind_none : (first later : Option Kind) → or_kind first later ≡ None → (first ≡ None) × (later ≡ None)
kind_none None later h = (refl, h)
kind_none (Some kind) later h = cc

pub else_none : (first later : Option DimacsError) → or_else first later ≡ None → (first ≡ None) × (later ≡ None)
else_none None later h = (refl, h)
else_none (Some e) later h = cc

step_line : (format : Format) (ranges : Ranges) (before : List (List ℕ)) (line : List ℕ) → Stands format ranges (problem_of format before) (items_of format before) → fault format ranges before line ≡ None
    → Stands format ranges (problem_of format (before ++ line ∷ [])) (items_of format (before ++ line ∷ []))
unfolding fault
step_line format ranges before line h none =
    rw (problem_push format before line, items_push format before line) (step format ranges (problem_of format before) (items_of format before) (reading format line) h (formed format line) none)

walk : (format : Format) (ranges : Ranges) (before more : List (List ℕ)) → Stands format ranges (problem_of format before) (items_of format before) → first_after (judge format ranges) before more ≡ None
    → Stands format ranges (problem_of format (before ++ more)) (items_of format (before ++ more))
unfolding first_after
walk format ranges before [] h none = rw append-nil h
walk format ranges before (line ∷ more) h none =
    let parts = at_none (length before + 1) (line_fault (judge format ranges) before line) (first_after (judge format ranges) (before ++ line ∷ []) more) none in
    let clean = (kind_none (size_fault (judge format ranges) before line) (fault format ranges before line) parts.0).1 in
    subst (λ (all : List (List ℕ)). Stands format ranges (problem_of format all) (items_of format all)) (append_assoc before (line ∷ []) more)
    (walk format ranges (before ++ line ∷ []) more (step_line format ranges before line h clean) parts.1)

nothing : (format : Format) (ranges : Ranges) → Stands format ranges (problem_of format []) (items_of format [])
unfolding problem_of items_of
nothing format ranges = refl

few_none : (b : Bool) → cond b (Some TooFew) None ≡ None → b ≡ false
few_none true h = cc
few_none false h = refl

all_there : (format : Format) (ranges : Ranges) (ps : List ℕ) (items : List ItemLine) → missing_of format ranges (Some ps) items ≡ None → top ranges ps format.needed ≤ count 0 items
all_there format ranges ps items h = ltb-false (count 0 items) (top ranges ps format.needed) (few_none (ltb (count 0 items) (top ranges ps format.needed)) h)

accepted_at : (format : Format) (ranges : Ranges) (problem : Option (List ℕ)) (all items : List ItemLine) (ps : List ℕ) → problem ≡ Some ps → all ≡ items → Stands format ranges problem all → missing_of format ranges problem all ≡ None → IsAccepted format ranges ps items
accepted_at format ranges None all items ps p is h none = cc
accepted_at format ranges (Some qs) all items ps p is h none =
    let same : qs ≡ ps = cc in
    let good = rw is at (rw same at h) in
    record {
      full = good.full;
      in_range = good.in_range;
      allowed = good.allowed;
      bounded = good.bounded;
      enough = all_there format ranges ps items (rw is at (rw same at none));
    }

pub accepted : (format : Format) (ranges : Ranges) (text ps : List ℕ) (items : List ItemLine) → Spells format ranges text ps items → IsAccepted format ranges ps items
unfolding fault_at_end missing
accepted format ranges text ps items h =
    let parts = else_none (first_fault (judge format ranges) (lines text)) (or_at (length (lines text) + 1) (missing format ranges (lines text)) None) h.faultless in
    let none = at_none (length (lines text) + 1) (missing format ranges (lines text)) None parts.1 in
    accepted_at format ranges (problem_of format (lines text)) (items_of format (lines text)) items ps h.problem_line h.item_lines (walk format ranges [] (lines text) (nothing format ranges) parts.0) none.0
