-- What a text spells, and its first fault, defined on the whole list of its lines.
use Rattle.std.specs.Prelude.{◌≡◌, ℕ, ◌+◌, Bool, true, false, ◌&&◌, List, [], ◌∷◌, slice_index, nat_le, nat_lt, ◌==◌, if◌then◌else◌, Option, Some, None}
use Rattle.std.specs.List.{list_any, count_by}
use Rattle.sp_text.specs.declared.faults.Kind.{Kind}
use Rattle.sp_text.specs.declared.faults.Kind.TheVariants.{BadLine, NoProblem, SecondProblem, OutOfRange, TooMany, TooFew}
use Rattle.sp_text.specs.declared.formats.Top.{Top}
use Rattle.sp_text.specs.declared.formats.Top.TheVariants.{Number, Vertex, Dist, Problem}
use Rattle.sp_text.specs.declared.formats.Ranges.{Ranges}
use Rattle.sp_text.specs.declared.formats.Field.{Field}
use Rattle.sp_text.specs.Formats.{LineForm, Format}
use Rattle.sp_text.specs.Lines.{lines, fields, is_number, value}
use Rattle.sp_text.specs.First.{Judge, fault_at_end}

-- 1. A line by itself.

-- The field is this word.
abbrev pub is_word : List ℕ → List ℕ → Bool
is_word [] [] = true
is_word [] (c ∷ field) = false
is_word (b ∷ word) [] = false
is_word (b ∷ word) (c ∷ field) = (b == c) && is_word word field

-- There are no fields, or the first one is `c`.
abbrev pub is_comment : List (List ℕ) → Bool
is_comment [] = true
is_comment (field ∷ more) = is_word (99 ∷ []) field

-- This puts a number before the others, if there are any.
abbrev pub with_number : ℕ → Option (List ℕ) → Option (List ℕ)
with_number n None = None
with_number n (Some ns) = Some (n ∷ ns)

-- The fields are numbers, one for each of these, and this is the list of them.
abbrev pub numbers : List Field → List (List ℕ) → Option (List ℕ)
numbers [] [] = Some []
numbers [] (field ∷ more) = None
numbers (d ∷ ds) [] = None
numbers (d ∷ ds) (field ∷ more) = if is_number field then with_number (value field) (numbers ds more) else None

-- The fields are these words, and then such numbers.
abbrev pub behind_words : List (List ℕ) → List Field → List (List ℕ) → Option (List ℕ)
behind_words [] ds line = numbers ds line
behind_words (word ∷ words) ds [] = None
behind_words (word ∷ words) ds (field ∷ more) = if is_word word field then behind_words words ds more else None

-- These are the numbers of a line of this form.
unfoldable pub of_form : LineForm → List (List ℕ) → Option (List ℕ)
of_form form line = behind_words form.words form.fields line

-- An item line has a form, given by its index among the forms, and numbers.
pub record ItemLine : Type 0 where
  pub kind : ℕ
  pub form : LineForm
  pub numbers : List ℕ

-- What a line is by itself: a comment, a line of no form, a problem line, or an item.
pub data Reading : Type 0 where
  Comment : Reading
  Bad : Reading
  IsProblem : List ℕ → Reading
  IsItem : ItemLine → Reading

-- This is an item with these numbers, if there are any, and otherwise the other reading.
abbrev pub item_or : ℕ → LineForm → Option (List ℕ) → Reading → Reading
item_or k form None other = other
item_or k form (Some ns) other = IsItem (record { kind = k; form = form; numbers = ns })

-- This is the item of the first form that the line has, or a bad line. `k` is the index of the first form.
abbrev pub item_reading : ℕ → List LineForm → List (List ℕ) → Reading
item_reading k [] line = Bad
item_reading k (form ∷ forms) line = item_or k form (of_form form line) (item_reading (k + 1) forms line)

-- This is a problem line with these numbers, if there are any, and otherwise the other reading.
abbrev pub problem_or : Option (List ℕ) → Reading → Reading
problem_or None other = other
problem_or (Some ns) other = IsProblem ns

-- This is what the fields of a line are.
unfoldable pub reading_of : Format → List (List ℕ) → Reading
reading_of format line = if is_comment line then Comment else problem_or (of_form format.problem line) (item_reading 0 format.items line)

-- This is what a line is by itself.
unfoldable pub reading : Format → List ℕ → Reading
reading format line = reading_of format (fields line)

-- 2. What lines without a fault spell: the numbers of the problem line, and the items.

-- These are the numbers of this line, if it is a problem line, and otherwise those of a later one.
abbrev pub problem_first : Reading → Option (List ℕ) → Option (List ℕ)
problem_first Comment later = later
problem_first Bad later = later
problem_first (IsProblem ns) later = Some ns
problem_first (IsItem item) later = later

-- These are the numbers of the first problem line, if there is one.
unfoldable pub problem_of : Format → List (List ℕ) → Option (List ℕ)
problem_of format [] = None
problem_of format (line ∷ more) = problem_first (reading format line) (problem_of format more)

-- This puts this line, if it is an item, before the later items.
abbrev pub items_first : Reading → List ItemLine → List ItemLine
items_first Comment later = later
items_first Bad later = later
items_first (IsProblem ns) later = later
items_first (IsItem item) later = item ∷ later

-- These are the items of the lines, in their order.
unfoldable pub items_of : Format → List (List ℕ) → List ItemLine
items_of format [] = []
items_of format (line ∷ more) = items_first (reading format line) (items_of format more)

-- 3. The fault of a line, by the lines before it.

-- This is the greatest value that is allowed. `ps` are the numbers of the problem line.
abbrev pub top : Ranges → List ℕ → Top → ℕ
top ranges ps (Number n) = n
top ranges ps Vertex = ranges.vertex
top ranges ps Dist = ranges.dist
top ranges ps (Problem k) = slice_index ps k

-- This is the letter of the leftmost number that is out of its range.
abbrev pub first_out : Ranges → List ℕ → List Field → List ℕ → Option ℕ
first_out ranges ps [] ns = None
first_out ranges ps (d ∷ ds) [] = None
first_out ranges ps (d ∷ ds) (n ∷ ns) = if nat_le d.least n && nat_le n (top ranges ps d.most) then first_out ranges ps ds ns else Some d.letter

-- This is the fault of the number with this letter, if there is one, and otherwise the later fault.
abbrev pub out_or : Option ℕ → Option Kind → Option Kind
out_or None later = later
out_or (Some letter) later = Some (OutOfRange letter)

-- This is the letter of the first field, if there is a field.
abbrev pub first_letter : List Field → Option ℕ
first_letter [] = None
first_letter (d ∷ ds) = Some d.letter

-- An earlier item of the form at this index has this first number. In a fresh form such a number is out of its range.
abbrev pub is_named : ℕ → ℕ → List ItemLine → Bool
is_named place first before = list_any (λ item. (item.kind == place) && (slice_index item.numbers 0 == first)) before

-- In a fresh form, this is the letter of the first field if an earlier item of the form has the same first number.
abbrev pub named_at : LineForm → ℕ → ℕ → List ItemLine → Option ℕ
named_at form place first before = if form.fresh && is_named place first before then first_letter form.fields else None

-- This is the first letter, if there is one, and otherwise the later one.
abbrev pub letter_or : Option ℕ → Option ℕ → Option ℕ
letter_or None later = later
letter_or (Some letter) later = Some letter

-- This is the letter of the leftmost number that was named before or is out of its range.
abbrev pub item_out : Ranges → List ℕ → List ItemLine → ItemLine → Option ℕ
item_out ranges ps before item = letter_or (named_at item.form item.kind (slice_index item.numbers 0) before) (first_out ranges ps item.form.fields item.numbers)

-- This is the number of items of a group.
abbrev pub count : ℕ → List ItemLine → ℕ
count group items = count_by (λ item. item.form.group == group) items

-- There are already as many items of the group as its limit allows.
abbrev pub too_many : Ranges → List ℕ → List ItemLine → ItemLine → Option Kind
too_many ranges ps before item = if nat_le (top ranges ps item.form.limit) (count item.form.group before) then Some TooMany else None

-- This is the fault of an item after a problem line and the items before it.
abbrev pub item_fault : Ranges → List ℕ → List ItemLine → ItemLine → Option Kind
item_fault ranges ps before item = out_or (item_out ranges ps before item) (too_many ranges ps before item)

-- This is the fault of a problem line: a number out of its range, or an earlier problem line.
abbrev pub problem_fault : Format → Ranges → Option (List ℕ) → List ℕ → Option Kind
problem_fault format ranges None ns = out_or (first_out ranges [] format.problem.fields ns) None
problem_fault format ranges (Some ps) ns = Some SecondProblem

-- This is the fault of an item: that no problem line comes before it, or the one that the lines before it show.
abbrev pub placed_fault : Ranges → Option (List ℕ) → List ItemLine → ItemLine → Option Kind
placed_fault ranges None before item = Some NoProblem
placed_fault ranges (Some ps) before item = item_fault ranges ps before item

-- This is the fault of a line with this reading.
abbrev pub reading_fault : Format → Ranges → Option (List ℕ) → List ItemLine → Reading → Option Kind
reading_fault format ranges problem before Comment = None
reading_fault format ranges problem before Bad = Some BadLine
reading_fault format ranges problem before (IsProblem ns) = problem_fault format ranges problem ns
reading_fault format ranges problem before (IsItem item) = placed_fault ranges problem before item

-- This is the fault of a line, given the lines before it.
unfoldable pub fault : Format → Ranges → List (List ℕ) → List ℕ → Option Kind
fault format ranges before line = reading_fault format ranges (problem_of format before) (items_of format before) (reading format line)

-- 4. What is missing when the lines end.

-- A file lacks a problem line, or needs more items of group 0.
abbrev pub missing_of : Format → Ranges → Option (List ℕ) → List ItemLine → Option Kind
missing_of format ranges None items = Some NoProblem
missing_of format ranges (Some ps) items = if nat_lt (count 0 items) (top ranges ps format.needed) then Some TooFew else None

-- This is what these lines lack when they end.
unfoldable pub missing : Format → Ranges → List (List ℕ) → Option Kind
missing format ranges all = missing_of format ranges (problem_of format all) (items_of format all)

-- 5. The rules of a file.

-- The reading is that of an item.
abbrev pub is_item_reading : Reading → Bool
is_item_reading Comment = false
is_item_reading Bad = false
is_item_reading (IsProblem ns) = false
is_item_reading (IsItem item) = true

-- The line is an item line.
unfoldable pub is_item_line : Format → List ℕ → Bool
is_item_line format line = is_item_reading (reading format line)

-- No file of a format closes itself, and its last line may lack its LF.
abbrev pub judge : Format → Ranges → Judge
judge format ranges = record {
  closed = λ lines. false;
  fault = fault format ranges;
  missing = missing format ranges;
  is_item = is_item_line format;
  needs_lf = false;
}

-- 6. What a text spells.
pub record Spells (format : Format) (ranges : Ranges) (text : List ℕ) (problem : List ℕ) (items : List ItemLine) : Type 0 where
  pub faultless : fault_at_end (judge format ranges) text ≡ None
  pub problem_line : problem_of format (lines text) ≡ Some problem
  pub item_lines : items_of format (lines text) ≡ items
