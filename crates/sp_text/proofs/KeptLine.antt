-- One line more, kept.
use Rattle.std.proofs.lemmas.List.Sums.{sum_by_push}
use Rattle.std.proofs.lemmas.Bool.{eq-eqb, ne_eqb, cases_eq, false≢true}
use Rattle.std.proofs.lemmas.List.{append-nil, get_or-set_same, get_or-set_other}
use Rattle.std.proofs.Common.{add-zero, zero-add, ◌&&◌, ◌≢◌, ◌≡◌, ℕ, zero, suc, ◌+◌, ◌<◌, ◌⊎◌, Bool, true, false, cond, eqb, leb, ltb, List, [], ◌∷◌, ◌++◌, length, set, Option, Some, None, Result, Ok, Err, refl, sym, ap, subst, ◌∙◌, ⊎_elim, inl, inr, arith}
use denote.Bor.{Bor}
use Rattle.std.specs.Option.{option_copied, unwrap_or}
use Rattle.std.specs.Prelude.{slice_index, slice_get, is_err, OnOk, MatchResult}
use Rattle.sp_text.specs.declared.faults.Kind.{Kind}
use Rattle.sp_text.specs.declared.faults.Kind.TheVariants.{Memory, BadLine, NoProblem, TooMany, TooFew}
use Rattle.sp_text.specs.declared.formats.Ranges.{Ranges}
use Rattle.sp_text.specs.Formats.{LineForm, Format, form_of, IsFreshPlace, fresh_after, IsOneOf}
use Rattle.sp_text.specs.Text.{ItemLine, Reading, Comment, Bad, IsProblem, IsItem, problem_first, items_first, problem_of, items_of, reading, top, first_letter, is_named, named_at, letter_or, item_out, count, problem_fault, placed_fault, fault, missing, is_item_line, judge}
use Rattle.sp_text.specs.Collecting.{IsAfter, Answers, ItemIs}
use Rattle.sp_text.specs.declared.formats.Form.{Form}
use Rattle.sp_text.specs.declared.matching.Numbers.{Numbers}
use Rattle.sp_text.specs.declared.matching.Numbers.TheVariants as lists
use Rattle.sp_text.specs.declared.reading.LineContent.{LineContent}
use Rattle.sp_text.specs.Matching.{Are, IsContent, front_of, letter_of}
use Rattle.sp_text.specs.First.{Judge}
use Rattle.sp_text.specs.Feeding.{Takes}

none_counted : (group : ℕ) → group < 3 → slice_index (0 ∷ 0 ∷ 0 ∷ []) group ≡ 0
none_counted zero h = refl
none_counted (suc zero) h = refl
none_counted (suc (suc zero)) h = refl
none_counted (suc (suc (suc n))) h = absurd (omega arith)

pub starts_empty : {K : Type 0} (format : Format) (Kept : K → List ItemLine → Type 0) (keep : K) → Kept keep [] → IsAfter format Kept [] keep None (0 ∷ 0 ∷ 0 ∷ [])
unfolding problem_of items_of
starts_empty format Kept keep kept = record {
  problem_is = refl;
  counts_are = none_counted;
  length_is = refl;
  kept_are = kept;
}

-- The letter of the leftmost number that was named before or is out of its range.

same_letter : (b c : Bool) (l : ℕ) → letter_or (cond b (Some l) None) (Some l) ≡ letter_or (cond c (Some l) None) (Some l)
same_letter true true l = refl
same_letter true false l = refl
same_letter false true l = refl
same_letter false false l = refl

named_same : (form : LineForm) (place first other : ℕ) (items : List ItemLine) (letter : ℕ) → first_letter form.fields ≡ Some letter → letter_or (named_at form place first items) (Some letter) ≡ letter_or (named_at form place other items) (Some letter)
named_same form place first other items letter is =
    rw is (same_letter (form.fresh && is_named place first items) (form.fresh && is_named place other items) letter)

out_is : (ranges : Ranges) (ps : List ℕ) (items : List ItemLine) (item : ItemLine) (numbers : Numbers) → Are ranges ps item.form.fields item.numbers numbers
    → item_out ranges ps items item ≡ letter_or (named_at item.form item.kind (slice_index (front_of numbers) 0) items) (letter_of numbers)
out_is ranges ps items item (lists.Within values) are = rw (are.0, are.1) refl
out_is ranges ps items item (lists.Out letter []) are = rw are.0 (named_same item.form item.kind (slice_index item.numbers 0) 0 items letter are.1)
out_is ranges ps items item (lists.Out letter (n ∷ part)) are = rw (are.0, are.1) refl

same_named : (form other : LineForm) (kind place front first : ℕ) (items : List ItemLine) → form ≡ other → kind ≡ place → first ≡ front → named_at other place first items ≡ named_at form kind front items
same_named form other kind place front first items e k f = rw (e, k, f) refl

item_out_is : (ranges : Ranges) (problem : Option (List ℕ)) (ps : List ℕ) (items : List ItemLine) (item : ItemLine) (form : Form) (place : ℕ) (numbers : Numbers) (first : ℕ) (named : Option ℕ) → problem ≡ Some ps → item.form ≡ form_of form → item.kind ≡ place
    → ItemIs ranges problem item numbers → first ≡ slice_index (front_of numbers) 0 → named ≡ named_at (form_of form) place first items → item_out ranges ps items item ≡ letter_or named (letter_of numbers)
item_out_is ranges problem ps items item form place numbers first named some is kind are first_is named_is =
    let named_here : named ≡ named_at item.form item.kind (slice_index (front_of numbers) 0) items = named_is ∙ same_named item.form (form_of form) item.kind place (slice_index (front_of numbers) 0) first items is kind first_is in
    out_is ranges ps items item numbers (rw some at are) ∙ ap (λ (n : Option ℕ). letter_or n (letter_of numbers)) (sym named_here)

counted_fault : (ranges : Ranges) (problem : Option (List ℕ)) (ps : List ℕ) (items : List ItemLine) (item : ItemLine) (form : Form) (full : Bool) → problem ≡ Some ps → item.form ≡ form_of form → item_out ranges ps items item ≡ None
    → leb (top ranges ps form.limit) (count form.group items) ≡ full → placed_fault ranges problem items item ≡ cond full (Some TooMany) None
counted_fault ranges problem ps items item form full some is none counts =
    let by_form : leb (top ranges ps item.form.limit) (count item.form.group items) ≡ full = rw is counts in
    rw (some, none, by_form) refl

-- the fault by the count
pub count_fault : (ranges : Ranges) (problem : Option (List ℕ)) (ps : List ℕ) (items : List ItemLine) (item : ItemLine) (form : Form) (place : ℕ) (numbers : Numbers) (first : ℕ) (named : Option ℕ) (values : List ℕ) (full : Bool) → problem ≡ Some ps → item.form ≡ form_of form → item.kind ≡ place
    → ItemIs ranges problem item numbers → first ≡ slice_index (front_of numbers) 0 → named ≡ named_at (form_of form) place first items → named ≡ None → numbers ≡ lists.Within values → leb (top ranges ps form.limit) (count form.group items) ≡ full
    → placed_fault ranges problem items item ≡ cond full (Some TooMany) None
count_fault ranges problem ps items item form place numbers first named values full some is kind are first_is named_is none within counts =
    let no_letter : item_out ranges ps items item ≡ None = item_out_is ranges problem ps items item form place numbers first named some is kind are first_is named_is ∙ rw (none, within) refl in
    counted_fault ranges problem ps items item form full some is no_letter counts

-- A fresh form stands at a fresh place.
one_later : (n k : ℕ) (fresh : Bool) (places : List ℕ) → IsOneOf n places → IsOneOf n (cond fresh (k ∷ places) places)
one_later n k true places is = inr is
one_later n k false places is = is

fresh_at : (k : ℕ) (forms : List LineForm) (place : ℕ) (form : LineForm) → slice_get forms place ≡ Some form → form.fresh ≡ true → IsOneOf (k + place) (fresh_after k forms)
fresh_at k [] zero form is fresh = cc
fresh_at k [] (suc place) form is fresh = cc
fresh_at k (f ∷ forms) zero form is fresh =
    let same : f ≡ form = cc in
    rw (same, fresh, add-zero k) (inl refl)
fresh_at k (f ∷ forms) (suc place) form is fresh =
    let later : IsOneOf (k + suc place) (fresh_after (k + 1) forms) = subst (λ (n : ℕ). IsOneOf n (fresh_after (k + 1) forms)) (omega arith) (fresh_at (k + 1) forms place form is fresh) in
    one_later (k + suc place) k f.fresh (fresh_after (k + 1) forms) later

pub is_fresh_place : (format : Format) (place : ℕ) (form : LineForm) → slice_get format.items place ≡ Some form → form.fresh ≡ true → IsFreshPlace format place
is_fresh_place format place form is fresh = subst (λ (n : ℕ). IsOneOf n (fresh_after 0 format.items)) (zero-add place) (fresh_at 0 format.items place form is fresh)

pub numbers_are : (ranges : Ranges) (problem : Option (List ℕ)) (ps : List ℕ) (item : ItemLine) (numbers : Numbers) (values : List ℕ) → problem ≡ Some ps → ItemIs ranges problem item numbers → numbers ≡ lists.Within values → item.numbers ≡ values
numbers_are ranges problem ps item numbers values some are within =
    let found = rw within at (rw some at are) in
    sym found.1

pub on_ok_at : {U E : Type 0} {P : Type 0} (r : Result U E) → is_err r ≡ false → OnOk r P → P
on_ok_at (Ok u) fine p = p
on_ok_at (Err e) fine p = cc

pub count_push : (group : ℕ) (items : List ItemLine) (item : ItemLine) → count group (items ++ item ∷ []) ≡ count group items + cond (eqb item.form.group group) 1 0
count_push group items item = sum_by_push (λ (x : ItemLine). cond (eqb x.form.group group) 1 0) items item

pub counted : (counts : List ℕ) (items : List ItemLine) (item : ItemLine) (form : Form) → item.form ≡ form_of form → length counts ≡ 3 → ((g : ℕ) → g < 3 → slice_index counts g ≡ count g items)
    → (g : ℕ) → g < 3 → slice_index (set counts form.group (slice_index counts form.group + 1)) g ≡ count g (items ++ item ∷ [])
counted counts items item form is len are g below = ⊎_elim
    (λ (same : g ≡ form.group).
    let here : eqb item.form.group g ≡ true = rw (is, same) (eq-eqb form.group form.group refl) in
    let within : form.group < length counts = omega arith in
    rw (same, get_or-set_same counts form.group (slice_index counts form.group + 1) 0 within) (rw (← same) (sym (count_push g items item ∙ rw (here, are g below) refl))))
    (λ (other : g ≢ form.group).
    let there : eqb item.form.group g ≡ false = rw is (ne_eqb form.group g (λ e. other (sym e))) in
    get_or-set_other counts form.group g (slice_index counts form.group + 1) 0 other ∙ (are g below ∙ sym (count_push g items item ∙ (rw there (add-zero (count g items))))))
    (cases_eq g form.group)

-- What lines spell, with one line more.

unfoldable pub problem_last : Option (List ℕ) → Reading → Option (List ℕ)
problem_last None r = problem_first r None
problem_last (Some ps) r = Some ps

first_last : (r : Reading) (problem : Option (List ℕ)) (last : Reading) → problem_first r (problem_last problem last) ≡ problem_last (problem_first r problem) last
unfolding problem_last
first_last Comment problem last = refl
first_last Bad problem last = refl
first_last (IsProblem ns) problem last = refl
first_last (IsItem item) problem last = refl

last_comment : (problem : Option (List ℕ)) → problem_last problem Comment ≡ problem
unfolding problem_last
last_comment None = refl
last_comment (Some ps) = refl

pub first_items : (r : Reading) (xs ys : List ItemLine) → items_first r (xs ++ ys) ≡ items_first r xs ++ ys
first_items Comment xs ys = refl
first_items Bad xs ys = refl
first_items (IsProblem ns) xs ys = refl
first_items (IsItem item) xs ys = refl

pub problem_push : (format : Format) (before : List (List ℕ)) (line : List ℕ) → problem_of format (before ++ line ∷ []) ≡ problem_last (problem_of format before) (reading format line)
unfolding problem_of problem_last
problem_push format [] line = refl
problem_push format (x ∷ before) line = ap (problem_first (reading format x)) (problem_push format before line) ∙ first_last (reading format x) (problem_of format before) (reading format line)

pub items_push : (format : Format) (before : List (List ℕ)) (line : List ℕ) → items_of format (before ++ line ∷ []) ≡ items_of format before ++ items_first (reading format line) []
unfolding items_of
items_push format [] line = refl
items_push format (x ∷ before) line = ap (items_first (reading format x)) (items_push format before line) ∙ first_items (reading format x) (items_of format before) (items_first (reading format line) [])

-- A line that leaves all as it is.
same_after : {K : Type 0} (format : Format) (Kept : K → List ItemLine → Type 0) (before : List (List ℕ)) (line : List ℕ) (keep : K) (ps : Option (List ℕ)) (counts : List ℕ)
    → reading format line ≡ Comment → IsAfter format Kept before keep ps counts → IsAfter format Kept (before ++ line ∷ []) keep ps counts
unfolding problem_last
same_after format Kept before line keep ps counts is h =
    let problem : problem_of format (before ++ line ∷ []) ≡ problem_of format before = problem_push format before line ∙ rw is (last_comment (problem_of format before)) in
    let items : items_of format (before ++ line ∷ []) ≡ items_of format before = items_push format before line ∙ rw is (append-nil (items_of format before)) in
    rw (problem, items) h

pub comment_taken : {K : Type 0} (format : Format) (ranges : Ranges) (Kept : K → List ItemLine → Type 0) (before : List (List ℕ)) (line : List ℕ) (keep : K) (ps : Option (List ℕ)) (counts : List ℕ)
    → reading format line ≡ Comment → IsAfter format Kept before keep ps counts → (fault format ranges before line ≡ None) × IsAfter format Kept (before ++ line ∷ []) keep ps counts
unfolding fault
comment_taken format ranges Kept before line keep ps counts is h = (rw is refl, same_after format Kept before line keep ps counts is h)

pub bad_taken : (format : Format) (ranges : Ranges) (before : List (List ℕ)) (line : List ℕ) → reading format line ≡ Bad → fault format ranges before line ≡ Some BadLine
unfolding fault
bad_taken format ranges before line is = rw is refl

-- the answer to a line, and the state behind it
abbrev pub Taken : {K U : Type 0} → Format → Ranges → (K → List ItemLine → Type 0) → List (List ℕ) → List ℕ → Result U Kind → K → Option (List ℕ) → List ℕ → Type 0
Taken format ranges Kept before line result keep ps counts = MatchResult result
    (λ _. (fault format ranges before line ≡ None) × IsAfter format Kept (before ++ line ∷ []) keep ps counts)
    (λ kind. (fault format ranges before line ≡ Some kind) ⊎ ((fault format ranges before line ≡ None) × (kind ≡ Memory) × (is_item_line format line ≡ true)))

pub takes_from : {T U : Type 0} (judge : Judge) (After : T → List (List ℕ) → Type 0) (before : List (List ℕ)) (line : List ℕ) (result : Result U Kind) (new : T)
    → MatchResult result (λ _. (judge.fault before line ≡ None) × After new (before ++ line ∷ [])) (λ kind. (judge.fault before line ≡ Some kind) ⊎ ((judge.fault before line ≡ None) × (kind ≡ Memory) × (judge.is_item line ≡ true)))
    → Takes judge After before line result new
takes_from judge After before line (Ok u) new h = h
takes_from judge After before line (Err kind) new h = h

none_before : (format : Format) (ranges : Ranges) (problem : Option (List ℕ)) (ns : List ℕ) → problem_fault format ranges problem ns ≡ None → problem ≡ None
none_before format ranges None ns h = refl
none_before format ranges (Some ps) ns h = cc

pub problem_taken : {K U : Type 0} (format : Format) (ranges : Ranges) (Kept : K → List ItemLine → Type 0) (before : List (List ℕ)) (line : List ℕ) (ns : List ℕ) (result : Result U Kind) (keep : K) (ps : Option (List ℕ)) (counts : List ℕ)
    → reading format line ≡ IsProblem ns → Answers Kept false (problem_fault format ranges (problem_of format before) ns) (Some ns) (items_of format before) result keep ps counts
    → Taken format ranges Kept before line result keep ps counts
unfolding fault problem_last
problem_taken format ranges Kept before line ns (Ok u) keep ps counts is h =
    let none = none_before format ranges (problem_of format before) ns h.0 in
    let problem : problem_of format (before ++ line ∷ []) ≡ Some ns = problem_push format before line ∙ rw (none, is) refl in
    let items : items_of format (before ++ line ∷ []) ≡ items_of format before = items_push format before line ∙ rw is (append-nil (items_of format before)) in
    (rw is h.0, rw (problem, items) h.1)
problem_taken format ranges Kept before line ns (Err kind) keep ps counts is (inl told) = inl (rw is told)
problem_taken format ranges Kept before line ns (Err kind) keep ps counts is (inr memory) = absurd (false≢true memory.2)

some_before : (ranges : Ranges) (problem : Option (List ℕ)) (items : List ItemLine) (item : ItemLine) → placed_fault ranges problem items item ≡ None → problem_last problem (IsItem item) ≡ problem
unfolding problem_last
some_before ranges None items item h = cc
some_before ranges (Some ps) items item h = refl

item_line : (format : Format) (line : List ℕ) (item : ItemLine) → reading format line ≡ IsItem item → is_item_line format line ≡ true
unfolding is_item_line
item_line format line item is = rw is refl

pub item_taken : {K U : Type 0} (format : Format) (ranges : Ranges) (Kept : K → List ItemLine → Type 0) (before : List (List ℕ)) (line : List ℕ) (item : ItemLine) (result : Result U Kind) (keep : K) (ps : Option (List ℕ)) (counts : List ℕ)
    → reading format line ≡ IsItem item → Answers Kept true (placed_fault ranges (problem_of format before) (items_of format before) item) (problem_of format before) (items_of format before ++ item ∷ []) result keep ps counts
    → Taken format ranges Kept before line result keep ps counts
unfolding fault
item_taken format ranges Kept before line item (Ok u) keep ps counts is h =
    let problem : problem_of format (before ++ line ∷ []) ≡ problem_of format before = problem_push format before line ∙ rw is (some_before ranges (problem_of format before) (items_of format before) item h.0) in
    let items : items_of format (before ++ line ∷ []) ≡ items_of format before ++ item ∷ [] = items_push format before line ∙ rw is refl in
    (rw is h.0, rw (problem, items) h.1)
item_taken format ranges Kept before line item (Err kind) keep ps counts is (inl told) = inl (rw is told)
item_taken format ranges Kept before line item (Err kind) keep ps counts is (inr memory) = inr (rw is memory.0, memory.1, item_line format line item is)

pub found_at : (format other : Format) (ranges more : Ranges) (ps line : List ℕ) (found : LineContent) → other ≡ format → more ≡ ranges → IsContent other more ps (reading other line) found → IsContent format ranges ps (reading format line) found
found_at format other ranges more ps line found e f is = subst (λ (r : Ranges). IsContent format r ps (reading format line) found) f (subst (λ (x : Format). IsContent x more ps (reading x line) found) e is)

-- The numbers of the problem line, where it has come.
pub are_seen : (ranges : Ranges) (problem : Option (List ℕ)) (ref : Option (Bor (List ℕ))) (d seen : Bor (List ℕ)) (item : ItemLine) (numbers : Numbers) → option_copied ref ≡ problem → seen ≡ unwrap_or ref d
    → Are ranges seen.now item.form.fields item.numbers numbers → ItemIs ranges problem item numbers
are_seen ranges problem None d seen item numbers e s are = subst (λ (p : Option (List ℕ)). ItemIs ranges p item numbers) e tt
are_seen ranges problem (Some x) d seen item numbers e s are =
    subst (λ (p : Option (List ℕ)). ItemIs ranges p item numbers) e (subst (λ (b : Bor (List ℕ)). Are ranges b.now item.form.fields item.numbers numbers) s are)

-- The end.

pub missing_problem : {K : Type 0} (format : Format) (ranges : Ranges) (Kept : K → List ItemLine → Type 0) (all : List (List ℕ)) (keep : K) (ps : Option (List ℕ)) (counts : List ℕ) → IsAfter format Kept all keep ps counts → ps ≡ None → missing format ranges all ≡ Some NoProblem
unfolding missing
missing_problem format ranges Kept all keep ps counts h none = let is : problem_of format all ≡ None = sym h.problem_is ∙ none in rw is refl

pub missing_lines : {K : Type 0} (format other : Format) (ranges more : Ranges) (Kept : K → List ItemLine → Type 0) (all : List (List ℕ)) (keep : K) (ps : Option (List ℕ)) (counts ns : List ℕ) (greatest : ℕ) (few : Bool)
    → IsAfter format Kept all keep ps counts → ps ≡ Some ns → other ≡ format → more ≡ ranges → greatest ≡ top more ns other.needed → ltb (slice_index counts 0) greatest ≡ few
    → missing format ranges all ≡ cond few (Some TooFew) None
unfolding missing
missing_lines format other ranges more Kept all keep ps counts ns greatest few h some e f is less =
    let is_problem : problem_of format all ≡ Some ns = sym h.problem_is ∙ some in
    let counts_is : ltb (count 0 (items_of format all)) (top ranges ns format.needed) ≡ few = rw (← h.counts_are 0 (omega arith), ← e, ← f, ← is) less in
    rw (is_problem, counts_is) refl
