-- Plain lines behind a problem line.
use Rattle.std.proofs.Common.{⊎_elim, ◌≡◌, ◌≢◌, ℕ, ◌+◌, ◌<◌, ◌≤◌, false, cond, eqb, leb, List, [], ◌∷◌, ◌++◌, length, set, get_or, Option, Some, None, refl, sym, ap, ◌∙◌, add-zero, arith}
use Rattle.std.specs.Prelude.{slice_get, slice_index}
use Rattle.std.specs.List.{AllByRecursion}
use Rattle.std.proofs.lemmas.Bool.{ne_eqb, cases_eq, lt-leb}
use Rattle.std.proofs.lemmas.List.{length-set, length_push, get_or-set_same, get_or-set_other}
use Rattle.std.proofs.lemmas.List.Sums.{sum_by-append, sum_by-cons}
use Rattle.std.proofs.lemmas.Option.{slice_get-map, slice_get-get_or}
use Rattle.sp_text.specs.declared.formats.Ranges.{Ranges}
use Rattle.sp_text.specs.declared.formats.Form.{Form}
use Rattle.sp_text.specs.declared.formats.FileFormat.{FileFormat}
use Rattle.sp_text.specs.Formats.{LineForm, Format, form_of, format_of}
use Rattle.sp_text.specs.First.{line_fault, first_after}
use Rattle.sp_text.specs.Text.{ItemLine, Reading, Comment, Bad, IsProblem, IsItem, problem_first, items_first, problem_of, items_of, reading, top, item_out, too_many, count, fault, judge}
use Rattle.sp_text.specs.Collecting.{IsAfter}
use Rattle.sp_text.specs.Plain.{IsPlainItem, IsPlainReading, IsPlain, AreRead}
use Rattle.sp_text.proofs.Behind.{short_line}
use Rattle.sp_text.proofs.KeptLine.{first_items, items_push}

-- 1. What lines spell, with others behind them.

first_stays : (ps : List ℕ) (r : Reading) (a b : Option (List ℕ)) → (a ≡ Some ps → b ≡ Some ps) → problem_first r a ≡ Some ps → problem_first r b ≡ Some ps
first_stays ps Comment a b same is = same is
first_stays ps Bad a b same is = same is
first_stays ps (IsProblem ns) a b same is = is
first_stays ps (IsItem item) a b same is = same is

pub problem_stays : (format : Format) (ps : List ℕ) (before more : List (List ℕ)) → problem_of format before ≡ Some ps → problem_of format (before ++ more) ≡ Some ps
unfolding problem_of
problem_stays format ps [] more is = cc
problem_stays format ps (line ∷ before) more is =
    first_stays ps (reading format line) (problem_of format before) (problem_of format (before ++ more)) (problem_stays format ps before more) is

pub items_both : (format : Format) (before more : List (List ℕ)) → items_of format (before ++ more) ≡ items_of format before ++ items_of format more
unfolding items_of
items_both format [] more = refl
items_both format (line ∷ before) more =
    ap (items_first (reading format line)) (items_both format before more) ∙ first_items (reading format line) (items_of format before) (items_of format more)

-- 2. The items of plain lines.

-- As many items of group 0, and none of another one.
abbrev AreCounted : List ItemLine → Type 0
AreCounted items = (count 0 items ≡ length items) × ((group : ℕ) → group ≢ 0 → count group items ≡ 0)

one_more : (format : Format) (ranges : Ranges) (ps : List ℕ) (r : Reading) (items : List ItemLine) → IsPlainReading format ranges ps r → AreCounted items → AreCounted (items_first r items)
one_more format ranges ps Comment items plain counted = counted
one_more format ranges ps Bad items plain counted = absurd plain
one_more format ranges ps (IsProblem ns) items plain counted = absurd plain
one_more format ranges ps (IsItem item) items plain counted = (
  sum_by-cons (λ (x : ItemLine). cond (eqb x.form.group 0) 1 0) item items ∙ rw (plain.group, counted.0) (omega arith),
  λ group other.
      sum_by-cons (λ (x : ItemLine). cond (eqb x.form.group group) 1 0) item items ∙ rw (plain.group, ne_eqb 0 group (λ e. other (sym e)), counted.1 group other) (omega arith),
)

pub plain_counted : (format : Format) (ranges : Ranges) (ps : List ℕ) (all : List (List ℕ)) → AllByRecursion (IsPlain format ranges ps) all → AreCounted (items_of format all)
unfolding items_of
plain_counted format ranges ps [] plain = (refl, λ group other. refl)
plain_counted format ranges ps (line ∷ more) plain = one_more format ranges ps (reading format line) (items_of format more) plain.0.fits (plain_counted format ranges ps more plain.1)

-- 3. Plain lines have no fault, where there are not too many.

item_clean : (format : Format) (ranges : Ranges) (ps : List ℕ) (form : LineForm) (items : List ItemLine) (item : ItemLine) → slice_get format.items 0 ≡ Some form → IsPlainItem format ranges ps item → count 0 items < top ranges ps form.limit
    → (item_out ranges ps items item ≡ None) × (too_many ranges ps items item ≡ None)
item_clean format ranges ps form items item first plain fewer =
    let same : item.form ≡ form = cc (first, plain.form) in
    let room : leb (top ranges ps item.form.limit) (count item.form.group items) ≡ false = rw (plain.group, same) (lt-leb _ _ fewer) in
    (rw (plain.stale, plain.in_range) refl, rw room refl)

line_clean : (format : Format) (ranges : Ranges) (ps : List ℕ) (form : LineForm) (before : List (List ℕ)) (line : List ℕ) (r : Reading) → slice_get format.items 0 ≡ Some form → problem_of format before ≡ Some ps
    → reading format line ≡ r → IsPlainReading format ranges ps r → count 0 (items_of format before) + length (items_first r []) ≤ top ranges ps form.limit → fault format ranges before line ≡ None
unfolding fault
line_clean format ranges ps form before line Comment first problem is plain fewer = rw is refl
line_clean format ranges ps form before line Bad first problem is plain fewer = absurd plain
line_clean format ranges ps form before line (IsProblem ns) first problem is plain fewer = absurd plain
line_clean format ranges ps form before line (IsItem item) first problem is plain fewer =
    let clean = item_clean format ranges ps form (items_of format before) item first plain (omega arith) in
    rw (is, problem, clean.0, clean.1) refl

-- the items with those of one line more
more_counted : (format : Format) (ranges : Ranges) (ps : List ℕ) (items : List ItemLine) (r : Reading) → IsPlainReading format ranges ps r → count 0 (items ++ items_first r []) ≡ count 0 items + length (items_first r [])
more_counted format ranges ps items r plain =
    sum_by-append (λ (x : ItemLine). cond (eqb x.form.group 0) 1 0) items (items_first r []) ∙ ap (λ (n : ℕ). count 0 items + n) (one_more format ranges ps r [] plain (refl, λ group other. refl)).0

first_length : (r : Reading) (items : List ItemLine) → length (items_first r items) ≡ length (items_first r []) + length items
first_length Comment items = omega arith
first_length Bad items = omega arith
first_length (IsProblem ns) items = omega arith
first_length (IsItem item) items = omega arith

pub plain_clean : (format : Format) (ranges : Ranges) (ps : List ℕ) (form : LineForm) (before all : List (List ℕ)) → slice_get format.items 0 ≡ Some form → problem_of format before ≡ Some ps → AllByRecursion (IsPlain format ranges ps) all
    → count 0 (items_of format before) + length (items_of format all) ≤ top ranges ps form.limit → first_after (judge format ranges) before all ≡ None
unfolding first_after items_of
plain_clean format ranges ps form before [] first problem plain fewer = refl
plain_clean format ranges ps form before (line ∷ more) first problem plain fewer =
    let r = reading format line in
    let long = first_length r (items_of format more) in
    let clean : fault format ranges before line ≡ None = line_clean format ranges ps form before line r first problem refl plain.0.fits (omega arith) in
    let here : line_fault (judge format ranges) before line ≡ None = short_line (judge format ranges) before line refl plain.0.short ∙ clean in
    let counted : count 0 (items_of format (before ++ line ∷ [])) ≡ count 0 (items_of format before) + length (items_first r []) = ap (count 0) (items_push format before line) ∙ more_counted format ranges ps (items_of format before) r plain.0.fits in
    rw here (plain_clean format ranges ps form (before ++ line ∷ []) more first (problem_stays format ps before (line ∷ []) problem) plain.1 (omega arith))

-- 4. The state behind them.

both_counted : (before more : List ItemLine) (counts : List ℕ) (sum group : ℕ) → length counts ≡ 3 → group < 3 → ((g : ℕ) → g < 3 → slice_index counts g ≡ count g before) → AreCounted more → sum ≡ slice_index counts 0 + length more
    → slice_index (set counts 0 sum) group ≡ count group (before ++ more)
both_counted before more counts sum group long below are counted is = ⊎_elim
    (λ (here : group ≡ 0).
    rw (here, get_or-set_same counts 0 sum 0 (omega arith)) (is ∙ (rw (are 0 (omega arith), sum_by-append (λ (x : ItemLine). cond (eqb x.form.group 0) 1 0) before more, counted.0) refl)))
    (λ (other : group ≢ 0).
    get_or-set_other counts 0 group sum 0 other ∙ (are group below ∙ (sym (add-zero (count group before)) ∙ rw (sum_by-append (λ (x : ItemLine). cond (eqb x.form.group group) 1 0) before more, counted.1 group other) refl)))
    (cases_eq group 0)

pub plain_added : {K : Type 0} (format : Format) (ranges : Ranges) (Kept : K → List ItemLine → Type 0) (ps : List ℕ) (before all : List (List ℕ)) (old keep new : K) (problem : Option (List ℕ)) (counts : List ℕ) (sum number : ℕ)
    → problem_of format before ≡ Some ps → IsAfter format Kept before old problem counts → AreRead format ranges Kept ps all keep number → Kept new (items_of format before ++ items_of format all)
    → sum ≡ slice_index counts 0 + length (items_of format all) → IsAfter format Kept (before ++ all) new problem (set counts 0 sum)
plain_added format ranges Kept ps before all old keep new problem counts sum number is h read kept sum_is = record {
  problem_is = h.problem_is ∙ (is ∙ sym (problem_stays format ps before all is));
  counts_are = λ group below. rw (items_both format before all) (both_counted (items_of format before) (items_of format all) counts sum group h.length_is below h.counts_are (plain_counted format ranges ps all read.plain) sum_is);
  length_is = length-set counts 0 sum ∙ h.length_is;
  kept_are = rw (items_both format before all) kept;
}

-- 5. Plain lines are taken.

first_form : (format : Format) (file : FileFormat) (d : Form) → format_of file ≡ format → 0 < length file.items.now → slice_get format.items 0 ≡ Some (form_of (get_or file.items.now 0 d))
first_form format file d is some = rw (← is) (slice_get-map form_of file.items.now 0 ∙ rw (slice_get-get_or file.items.now 0 d some) refl)

pub items_added : {K : Type 0} (format : Format) (file : FileFormat) (d : Form) (ranges other : Ranges) (Kept : K → List ItemLine → Type 0) (ps values : List ℕ) (before all : List (List ℕ)) (old keep new : K) (problem : Option (List ℕ)) (counts : List ℕ) (sum most number : ℕ)
    → format_of file ≡ format → other ≡ ranges → 0 < length file.items.now → problem ≡ Some values → most ≡ top other values (get_or file.items.now 0 d).limit → sum ≤ most → sum ≡ slice_index counts 0 + length (items_of format all)
    → problem_of format before ≡ Some ps → IsAfter format Kept before old problem counts → AreRead format ranges Kept ps all keep number → Kept new (items_of format before ++ items_of format all)
    → (first_after (judge format ranges) before all ≡ None) × IsAfter format Kept (before ++ all) new problem (set counts 0 sum)
items_added format file d ranges other Kept ps values before all old keep new problem counts sum most number format_is ranges_is some problem_is most_is fits sum_is is h read kept =
    let same : values ≡ ps = cc (problem_is, h.problem_is, is) in
    let limit : most ≡ top ranges ps (get_or file.items.now 0 d).limit = most_is ∙ rw (ranges_is, same) refl in
    let fewer : count 0 (items_of format before) + length (items_of format all) ≤ top ranges ps (get_or file.items.now 0 d).limit = omega (arith, h.counts_are 0 (omega arith)) in (
      plain_clean format ranges ps (form_of (get_or file.items.now 0 d)) before all (first_form format file d format_is some) is read.plain fewer,
      plain_added format ranges Kept ps before all old keep new problem counts sum number is h read kept sum_is,
    )

-- 6. One line more.

all_push : {X : Type 0} (P : X → Type 0) (xs : List X) (x : X) → AllByRecursion P xs → P x → AllByRecursion P (xs ++ x ∷ [])
all_push P [] x all here = (here, tt)
all_push P (y ∷ xs) x all here = (all.0, all_push P xs x all.1 here)

pub read_push : {K : Type 0} (format : Format) (ranges : Ranges) (Kept : K → List ItemLine → Type 0) (ps : List ℕ) (all : List (List ℕ)) (line : List ℕ) (old new : K) (number : ℕ)
    → AreRead format ranges Kept ps all old number → IsPlain format ranges ps line → (Kept old (items_of format all) → Kept new (items_of format (all ++ line ∷ []))) → AreRead format ranges Kept ps (all ++ line ∷ []) new (number + 1)
read_push format ranges Kept ps all line old new number read plain keeps = record {
  plain = all_push (IsPlain format ranges ps) all line read.plain plain;
  kept = keeps read.kept;
  is_number = rw (length_push all line) (ap (λ (n : ℕ). n + 1) read.is_number);
}
