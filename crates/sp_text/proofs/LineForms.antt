-- The form that a line was found to have.
use Rattle.std.proofs.Common.{◌≡◌, ℕ, suc, ◌+◌, ◌<◌, ◌≤◌, false, List, [], ◌∷◌, ◌++◌, length, map, take, drop, get_or, Some, None, refl, sym, ap, ◌∙◌, arith, take-append-drop}
use Rattle.std.specs.Prelude.{slice_get}
use Rattle.std.specs.List.{AllByRecursion}
use Rattle.std.proofs.Math.Seq.{drop-drop}
use Rattle.std.proofs.lemmas.List.{drop_more, length-take}
use Rattle.std.proofs.lemmas.Option.{slice_get-map, slice_get-get_or}
use Rattle.sp_text.specs.declared.formats.Ranges.{Ranges}
use Rattle.sp_text.specs.declared.formats.Field.{Field}
use Rattle.sp_text.specs.declared.formats.Form.{Form}
use Rattle.sp_text.specs.declared.formats.FileFormat.{FileFormat}
use Rattle.sp_text.specs.declared.matching.Numbers.{Numbers}
use Rattle.sp_text.specs.declared.matching.Numbers.TheVariants.{Within}
use Rattle.sp_text.specs.Lines.{without_cr, fields_from, fields}
use Rattle.sp_text.specs.Formats.{form_of, format_of, IsSmallForm}
use Rattle.sp_text.specs.Text.{is_comment, behind_words, of_form, ItemLine, IsItem, item_reading, reading_of, reading}
use Rattle.sp_text.specs.Meaning.{IsFirstLine}
use Rattle.sp_text.specs.Matching.{Are, IsLetter, AreSpaced, AreInFront}
use Rattle.sp_text.proofs.FrontNumbers.{no_lf, no_cr}

item_here : (items : List Form) (place : ℕ) (d : Form) (line : List (List ℕ)) (ns : List ℕ) → place < length items → of_form (form_of (get_or items place d)) line ≡ Some ns
    → item_reading 0 (map form_of items) line ≡ item_reading place (map form_of (drop place items)) line
    → item_reading 0 (map form_of items) line ≡ IsItem (record { kind = place; form = form_of (get_or items place d); numbers = ns })
item_here items place d line ns within is so_far =
    so_far ∙ (ap (λ (forms : List Form). item_reading place (map form_of forms) line) (drop_more items place d within) ∙ rw is refl)

pub found_item : (format : FileFormat) (line text : List ℕ) (place : ℕ) (d : Form) (ranges : Ranges) (ps ns : List ℕ) (numbers : Numbers)
    → text ≡ without_cr line → false ≡ is_comment (fields_from [] text) → of_form (form_of format.problem) (fields_from [] text) ≡ None
    → item_reading 0 (map form_of format.items.now) (fields_from [] text) ≡ item_reading place (map form_of (drop place format.items.now)) (fields_from [] text)
    → place < length format.items.now → of_form (form_of (get_or format.items.now place d)) (fields_from [] text) ≡ Some ns
    → IsSmallForm (get_or format.items.now place d)
    → Are ranges ps (form_of (get_or format.items.now place d)).fields ns numbers
    → (item : ItemLine) × (reading (format_of format) line ≡ IsItem item) × (item.kind ≡ place) × (slice_get (format_of format).items place ≡ Some item.form) × (item.form ≡ form_of (get_or format.items.now place d)) × IsSmallForm (get_or format.items.now place d) × Are ranges ps item.form.fields item.numbers numbers
unfolding reading reading_of fields
found_item format line text place d ranges ps ns numbers cr remark problem so_far within is plain are =
    let here = item_here format.items.now place d (fields_from [] text) ns within is so_far in (
      record { kind = place; form = form_of (get_or format.items.now place d); numbers = ns },
      rw (← cr, ← remark, problem) here,
      refl,
      slice_get-map form_of format.items.now place ∙ rw (slice_get-get_or format.items.now place d within) refl,
      refl,
      plain,
      are,
    )

-- A line does not have a form with whose words it does not begin.
pub next_form : (items : List Form) (place : ℕ) (d : Form) (text : List ℕ) → place < length items → ((ds : List Field) → behind_words (fields_from [] (get_or items place d).words.now) ds (fields_from [] text) ≡ None)
    → item_reading 0 (map form_of items) (fields_from [] text) ≡ item_reading place (map form_of (drop place items)) (fields_from [] text)
    → item_reading 0 (map form_of items) (fields_from [] text) ≡ item_reading (place + 1) (map form_of (drop (place + 1) items)) (fields_from [] text)
unfolding of_form
next_form items place d text within none so_far =
    so_far ∙ (ap (λ (forms : List Form). item_reading place (map form_of forms) (fields_from [] text)) (drop_more items place d within) ∙ rw (none (get_or items place d).fields.now) refl)

no_form : (form : Form) (line : List (List ℕ)) → ((ds : List Field) → behind_words (fields_from [] form.words.now) ds line ≡ None) → of_form (form_of form) line ≡ None
unfolding of_form
no_form form line none = none form.fields.now

letter_form : (form : Form) (text rest : List ℕ) (ranges : Ranges) (ps ns : List ℕ) → IsLetter form.words.now text rest → AreSpaced ranges ps form.fields.now rest ns → of_form (form_of form) (fields_from [] text) ≡ Some ns
unfolding of_form
letter_form form text rest ranges ps ns letter spaced = letter spaced.apart form.fields.now ∙ spaced.spelled

-- An item whose form begins with a letter.
pub found_usual : (format : FileFormat) (line text rest : List ℕ) (place : ℕ) (d : Form) (ranges : Ranges) (ps ns : List ℕ) → IsSmallForm (get_or format.items.now place d)
    → text ≡ without_cr line → false ≡ is_comment (fields_from [] text) → ((ds : List Field) → behind_words (fields_from [] format.problem.words.now) ds (fields_from [] text) ≡ None)
    → item_reading 0 (map form_of format.items.now) (fields_from [] text) ≡ item_reading place (map form_of (drop place format.items.now)) (fields_from [] text)
    → place < length format.items.now → IsLetter (get_or format.items.now place d).words.now text rest → AreSpaced ranges ps (get_or format.items.now place d).fields.now rest ns
    → (item : ItemLine) × (reading (format_of format) line ≡ IsItem item) × (item.kind ≡ place) × (slice_get (format_of format).items place ≡ Some item.form) × (item.form ≡ form_of (get_or format.items.now place d)) × IsSmallForm (get_or format.items.now place d) × Are ranges ps item.form.fields item.numbers (Within ns)
found_usual format line text rest place d ranges ps ns small cr remark problem so_far within letter spaced =
    found_item format line text place d ranges ps ns (Within ns) cr remark (no_form format.problem (fields_from [] text) problem) so_far within
    (letter_form (get_or format.items.now place d) text rest ranges ps ns letter spaced) small (spaced.within, refl)

first_line : (b : ℕ) (text more : List ℕ) (end : ℕ) → end < length text → get_or text end 0 ≡ 10 → more ≡ drop 1 (drop end text) → b ∷ text ≡ (b ∷ take end text) ++ 10 ∷ more
first_line b text more end within lf is =
    let tail : drop end text ≡ 10 ∷ more = drop_more text end 0 within ∙ rw (lf, is, drop-drop 1 end text) refl in
    ap (λ (t : List ℕ). b ∷ t) (sym (take-append-drop end text) ∙ ap (λ (t : List ℕ). take end text ++ t) tail)

-- An item whose line is the front of a text.
pub front_usual : (format : FileFormat) (text line more rest : List ℕ) (end : ℕ) (d : Form) (ranges : Ranges) (ps ns : List ℕ) → IsSmallForm (get_or format.items.now 0 d) → 0 < length format.items.now → 0 < length text
    → AreInFront ranges ps (get_or format.items.now 0 d).fields.now (drop 1 text) ns end → get_or (drop 1 text) end 0 ≡ 10 → 32 ≤ get_or text 0 0 → line ≡ take (end + 1) text → more ≡ drop 1 (drop (end + 1) text)
    → IsLetter (get_or format.items.now 0 d).words.now line rest → rest ≡ drop 1 line
    → false ≡ is_comment (fields_from [] line) → ((ds : List Field) → behind_words (fields_from [] format.problem.words.now) ds (fields_from [] line) ≡ None)
    → (l : List ℕ) × IsFirstLine text l more × (length l ≤ 1024)
    × ((item : ItemLine) × (reading (format_of format) l ≡ IsItem item) × (item.kind ≡ 0) × (slice_get (format_of format).items 0 ≡ Some item.form) × (item.form ≡ form_of (get_or format.items.now 0 d)) × IsSmallForm (get_or format.items.now 0 d) × Are ranges ps item.form.fields item.numbers (Within ns))
front_usual format [] line more rest end d ranges ps ns small items some front lf first line_is more_is letter rest_is remark problem = absurd (omega arith)
front_usual format (b ∷ text) line more rest end d ranges ps ns small items some front lf first line_is more_is letter rest_is remark problem =
    let next : end + 1 ≡ suc end = omega arith in
    let whole : line ≡ b ∷ take end text = line_is ∙ ap (λ (k : ℕ). take k (b ∷ text)) next in
    let plain : AllByRecursion (λ x. 32 ≤ x) line = rw whole (first, front.plain) in
    let after : more ≡ drop 1 (drop end text) = more_is ∙ ap (λ (k : ℕ). drop 1 (drop k (b ∷ text))) next in
    let spaced : AreSpaced ranges ps (get_or format.items.now 0 d).fields.now rest ns = rw (rest_is, whole) front.spaced in (
      line,
      (no_lf line plain, first_line b text more end front.within lf after ∙ ap (λ (l : List ℕ). l ++ 10 ∷ more) (sym whole)),
      omega (arith, ap length whole, length-take end text, front.short),
      found_usual format line line rest 0 d ranges ps ns small (sym (no_cr line plain (omega (arith, ap length whole)))) remark problem refl items letter spaced,
    )
