-- The line forms of the files.
use Rattle.std.specs.Prelude.{◌≡◌, ◌+◌, ◌<◌, ◌≤◌, ◌⊎◌, ℕ, Bool, List, [], ◌∷◌, length, slice_index_or, map, if◌then◌else◌}
use Rattle.sp_text.specs.declared.formats.Top.{Top}
use Rattle.sp_text.specs.declared.formats.Field.{Field}
use Rattle.sp_text.specs.declared.formats.Form.{Form}
use Rattle.sp_text.specs.declared.formats.FileFormat.{FileFormat}
use Rattle.sp_word.specs.Word.{max_dist, max_pred}
use Rattle.sp_text.specs.declared.formats.Ranges.{Ranges}
use Rattle.sp_text.specs.Lines.{fields_from}

-- A line form has its words, and then a number for each field. Lines of forms of one group are counted together, up to
-- the limit. If a form is fresh, the first number of a line occurs in no earlier line of that form.
pub record LineForm : Type 0 where
  pub words : List (List ℕ)
  pub fields : List Field
  pub fresh : Bool
  pub group : ℕ
  pub limit : Top

-- A format has the problem line and the other lines. `needed` says how many lines of group 0 a file needs.
pub record Format : Type 0 where
  pub problem : LineForm
  pub items : List LineForm
  pub needed : Top

-- This is the form that the program's data describe.
abbrev pub form_of : Form → LineForm
form_of f = record { words = fields_from [] f.words.now; fields = f.fields.now; fresh = f.fresh; group = f.group; limit = f.limit }

-- This is the format that the program's data describe.
abbrev pub format_of : FileFormat → Format
format_of l = record { problem = form_of l.problem; items = map form_of l.items.now; needed = l.needed }

-- This is the field with this letter and this range.
abbrev pub field : ℕ → ℕ → Top → Field
field letter least most = record { letter = letter; least = least; most = most }

-- These are the indices of the fresh forms, from `k` on.
abbrev pub fresh_after : ℕ → List LineForm → List ℕ
fresh_after k [] = []
fresh_after k (form ∷ forms) = if form.fresh then k ∷ fresh_after (k + 1) forms else fresh_after (k + 1) forms

-- The list contains this number.
abbrev pub IsOneOf : ℕ → List ℕ → Type 0
IsOneOf n [] = ⊥
IsOneOf n (k ∷ ks) = (n ≡ k) ⊎ IsOneOf n ks

-- The form at this index is fresh.
abbrev pub IsFreshPlace : Format → ℕ → Type 0
IsFreshPlace format place = IsOneOf place (fresh_after 0 format.items)

-- The engine has room for lines of this form: at most four numbers, and three groups.
pub record IsSmallForm (f : Form) : Type 0 where
  pub numbers : length f.fields.now ≤ 4
  pub group : f.group < 3

-- The engine has room for lines of all forms of the file.
pub record IsSmall (l : FileFormat) : Type 0 where
  pub problem : IsSmallForm l.problem
  pub items : (k : ℕ) (d : Form) → k < length l.items.now → IsSmallForm (slice_index_or l.items.now k d)

-- These are the limits of words with P bits for the predecessor.
abbrev pub ranges_of : ℕ → Ranges
ranges_of P = record { vertex = max_pred P; dist = max_dist P }
