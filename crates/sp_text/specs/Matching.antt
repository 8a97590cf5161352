-- What a line was found to be.
use Rattle.std.specs.Prelude.{◌≡◌, ℕ, ◌<◌, ◌≤◌, true, ◌&&◌, nat_le, List, [], ◌∷◌, ◌++◌, length, take, slice_get, slice_index, Option, Some, None, Result, Ok, Err}
use Rattle.std.specs.Borrow.{Bor}
use Rattle.std.specs.List.{AllByRecursion}
use Rattle.sp_text.specs.Lines.{is_blank, fields_from}
use Rattle.sp_text.specs.declared.formats.Ranges.{Ranges}
use Rattle.sp_text.specs.declared.formats.Field.{Field}
use Rattle.sp_text.specs.declared.formats.Form.{Form}
use Rattle.sp_text.specs.declared.matching.Numbers.{Numbers}
use Rattle.sp_text.specs.declared.matching.Numbers.TheVariants as lists
use Rattle.sp_text.specs.declared.matching.FieldCheck.{FieldCheck}
use Rattle.sp_text.specs.declared.matching.FieldCheck.TheVariants.{No, Out, Within}
use Rattle.sp_text.specs.declared.reading.LineContent.{LineContent}
use Rattle.sp_text.specs.declared.reading.LineContent.TheVariants as contents
use Rattle.sp_text.specs.Formats.{Format, form_of, IsSmallForm}
use Rattle.sp_text.specs.Meaning.{IsFirstLine}
use Rattle.sp_text.specs.Text.{Reading, Comment, Bad, IsProblem, IsItem, ItemLine, with_number, numbers, behind_words, top, first_out, first_letter, reading}

-- The number with this letter is out of its range, and these numbers come before it.
abbrev pub IsFront : List Field → List ℕ → ℕ → List ℕ → Type 0
IsFront ds ns letter [] = first_letter ds ≡ Some letter
IsFront ds ns letter (n ∷ part) = slice_index ns 0 ≡ n

-- `found` holds the numbers that the fields spell, if they spell any.
abbrev pub Spells : Ranges → List ℕ → List Field → Option (List ℕ) → List ℕ → List ℕ → FieldCheck → Type 0
Spells ranges ps ds found old new No = found ≡ None
Spells ranges ps ds found old new (Out letter) = (ns part : List ℕ) × (found ≡ Some ns) × (first_out ranges ps ds ns ≡ Some letter) × (new ≡ old ++ part) × IsFront ds ns letter part
Spells ranges ps ds found old new Within = (ns : List ℕ) × (found ≡ Some ns) × (first_out ranges ps ds ns ≡ None) × (new ≡ old ++ ns)

-- The first number is this one, it is in its range, and the rest of the line spells the others; or the line doesn't
-- spell such numbers; or it does, and the first is out of its range.
abbrev pub NumberTaken : Ranges → List ℕ → Field → List Field → Option (List ℕ) → Result (ℕ × Bor (List ℕ)) FieldCheck → Type 0
NumberTaken ranges ps d ds found (Ok (n, rest)) = (found ≡ with_number n (numbers ds (fields_from [] rest.now))) × ((nat_le d.least n && nat_le n (top ranges ps d.most)) ≡ true)
NumberTaken ranges ps d ds found (Err No) = found ≡ None
NumberTaken ranges ps d ds found (Err (Out letter)) = (letter ≡ d.letter) × (ns : List ℕ) × (found ≡ Some ns) × (first_out ranges ps (d ∷ ds) ns ≡ Some letter)
NumberTaken ranges ps d ds found (Err Within) = ⊥

-- The numbers of a line were found to be out of range, or within their ranges.
abbrev pub Are : Ranges → List ℕ → List Field → List ℕ → Numbers → Type 0
Are ranges ps ds ns (lists.Out letter values) = (first_out ranges ps ds ns ≡ Some letter) × IsFront ds ns letter values
Are ranges ps ds ns (lists.Within values) = (first_out ranges ps ds ns ≡ None) × (values ≡ ns)

-- These are the numbers that were read.
abbrev pub front_of : Numbers → List ℕ
front_of (lists.Out letter values) = values
front_of (lists.Within values) = values

-- This is the letter of the first number that is out of its range.
abbrev pub letter_of : Numbers → Option ℕ
letter_of (lists.Out letter values) = Some letter
letter_of (lists.Within values) = None

-- The fields were found to spell no such numbers, or these.
abbrev pub Matched : Ranges → List ℕ → List Field → Option (List ℕ) → Option Numbers → Type 0
Matched ranges ps ds found None = found ≡ None
Matched ranges ps ds found (Some numbers) = (ns : List ℕ) × (found ≡ Some ns) × Are ranges ps ds ns numbers

-- The text begins with a blank, or is empty.
abbrev pub StandsApart : List ℕ → Type 0
StandsApart text = 0 < length text → is_blank (slice_index text 0) ≡ true

-- The words are a single letter, the line begins with it, and this is the rest of the line.
abbrev pub IsLetter : List ℕ → List ℕ → List ℕ → Type 0
IsLetter words line rest = StandsApart rest → (ds : List Field) → behind_words (fields_from [] words) ds (fields_from [] line) ≡ numbers ds (fields_from [] rest)

-- The text begins with a blank or is empty, and it spells these numbers, which are in their ranges.
pub record AreSpaced (ranges : Ranges) (ps : List ℕ) (ds : List Field) (text ns : List ℕ) : Type 0 where
  pub apart : StandsApart text
  pub spelled : numbers ds (fields_from [] text) ≡ Some ns
  pub within : first_out ranges ps ds ns ≡ None

-- The first bytes of the text, up to `end`, spell these numbers in the usual way. None of them is a control character,
-- and the text goes on.
pub record AreInFront (ranges : Ranges) (ps : List ℕ) (ds : List Field) (text ns : List ℕ) (end : ℕ) : Type 0 where
  pub within : end < length text
  pub short : end ≤ 32
  pub plain : AllByRecursion (λ b. 32 ≤ b) (take end text)
  pub spaced : AreSpaced ranges ps ds (take end text) ns

-- A line with this reading was found to have this content.
abbrev pub IsContent : Format → Ranges → List ℕ → Reading → LineContent → Type 0
IsContent format ranges ps reading contents.Comment = reading ≡ Comment
IsContent format ranges ps reading contents.Bad = reading ≡ Bad
IsContent format ranges ps reading (contents.Problem numbers) = (ns : List ℕ) × (reading ≡ IsProblem ns) × Are ranges [] format.problem.fields ns numbers
IsContent format ranges ps reading (contents.Item place form numbers) = (item : ItemLine) × (reading ≡ IsItem item) × (item.kind ≡ place) × (slice_get format.items place ≡ Some item.form) × (item.form ≡ form_of form.now) × IsSmallForm form.now × Are ranges ps item.form.fields item.numbers numbers

-- This is an item of the form at this index with these numbers, which are in their ranges.
abbrev pub IsUsualItem : Format → Ranges → List ℕ → Reading → ℕ × Bor Form × List ℕ → Type 0
IsUsualItem format ranges ps reading (place, form, ns) = IsContent format ranges ps reading (contents.Item place form (lists.Within ns))

-- The first line of the text is such an item, it isn't too long, and these bytes come after its LF.
abbrev pub IsFrontItem : Format → Ranges → List ℕ → List ℕ → ℕ × Bor Form × List ℕ × Bor (List ℕ) → Type 0
IsFrontItem format ranges ps text (place, form, ns, more) = (line : List ℕ) × IsFirstLine text line more.now × (length line ≤ 1024) × IsUsualItem format ranges ps (reading format line) (place, form, ns)
