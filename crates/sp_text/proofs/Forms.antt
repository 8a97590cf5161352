-- The numbers of a line, field by field.
use Rattle.std.proofs.Common.{◌≡◌, ℕ, ◌≤◌, Bool, true, false, cond, leb, ◌&&◌, List, [], ◌∷◌, ◌++◌, length, drop, get_or, Some, refl, sym, ◌∙◌, append_assoc, arith}
use Rattle.sp_text.specs.declared.formats.Ranges.{Ranges}
use Rattle.sp_text.specs.declared.formats.Field.{Field}
use Rattle.sp_text.specs.declared.numbers.Numeral.{Numeral}
use Rattle.sp_text.specs.declared.numbers.Numeral.TheVariants as numerals
use Rattle.sp_text.specs.declared.matching.FieldCheck.{FieldCheck}
use Rattle.sp_text.specs.declared.matching.FieldCheck.TheVariants.{No, Out, Within}
use Rattle.sp_text.specs.Lines.{is_number, value}
use Rattle.sp_text.specs.Numeral.{numeral}
use Rattle.std.specs.Prelude.{Err}
use Rattle.sp_text.specs.Text.{with_number, top, numbers}
use Rattle.sp_text.specs.Matching.{Spells, NumberTaken}

abbrev pub is_within : Field → Ranges → List ℕ → ℕ → Bool
is_within d ranges ps n = leb d.least n && leb n (top ranges ps d.most)

out_cases : (b t : Bool) (v : ℕ) → numerals.Out ≡ cond b (cond t (numerals.Value v) numerals.Out) numerals.Bad → (b ≡ true) × (t ≡ false)
out_cases true true v h = cc
out_cases true false v h = (refl, refl)
out_cases false t v h = cc

-- Behind a number that is out of its range, the others are numbers too.
pub out_here : (ranges : Ranges) (ps : List ℕ) (d : Field) (ds : List Field) (bytes : List ℕ) (rest whole : List (List ℕ)) (greatest : ℕ) (n : Numeral)
    → whole ≡ bytes ∷ rest → greatest ≡ top ranges ps d.most → n ≡ numeral bytes d.least greatest → n ≡ numerals.Out → ((ns : List ℕ) × (numbers ds rest ≡ Some ns))
    → NumberTaken ranges ps d ds (numbers (d ∷ ds) whole) (Err (Out d.letter))
out_here ranges ps d ds bytes rest whole greatest n parts top_is is out (ns, found) =
    let e = out_cases (is_number bytes) (is_within d ranges ps (value bytes)) (value bytes) (sym out ∙ rw top_is at is) in
    (refl, value bytes ∷ ns, rw (parts, e.0, found) refl, rw e.1 refl)

-- What the first field of a line shows, and what the others do.
pub next_first : (ranges : Ranges) (ps : List ℕ) (fields : List Field) (d : Field) (whole rest : List (List ℕ)) (n : ℕ) (old mid new : List ℕ) (result : FieldCheck)
    → 1 ≤ length fields → numbers (get_or fields 0 d ∷ drop 1 fields) whole ≡ with_number n (numbers (drop 1 fields) rest) → is_within (get_or fields 0 d) ranges ps n ≡ true → mid ≡ old ++ n ∷ []
    → Spells ranges ps (drop 1 fields) (numbers (drop 1 fields) rest) mid new result
    → Spells ranges ps fields (numbers fields whole) old new result
next_first ranges ps [] d whole rest n old mid new result some is within pushed spells = absurd (omega arith)
next_first ranges ps (f ∷ fs) d whole rest n old mid new No some is within pushed none = is ∙ rw none refl
next_first ranges ps (f ∷ fs) d whole rest n old mid new (Out letter) some is within pushed (ns, part, others, out, same, starts) =
    (n ∷ ns, n ∷ part, is ∙ rw others refl, rw within out, same ∙ rw pushed (append_assoc old (n ∷ []) part), refl)
next_first ranges ps (f ∷ fs) d whole rest n old mid new Within some is within pushed (ns, others, none, same) =
    (n ∷ ns, is ∙ rw others refl, rw within none, same ∙ rw pushed (append_assoc old (n ∷ []) ns))
