-- Lines in the usual spelling: a letter, and numbers behind a space each.
use Rattle.std.proofs.Common.{◌≡◌, ℕ, ◌+◌, ◌<◌, ◌≤◌, Bool, true, false, cond, leb, ◌&&◌, List, [], ◌∷◌, length, take, drop, get_or, refl, add-zero, arith}
use Rattle.std.proofs.lemmas.List.{get_or-drop, length-drop, drop_more}
use Rattle.sp_text.specs.declared.formats.Ranges.{Ranges}
use Rattle.sp_text.specs.declared.formats.Field.{Field}
use Rattle.sp_text.specs.declared.numbers.Numeral.TheVariants as numerals
use Rattle.sp_text.specs.Numeral.{IsFront, IsQuick, numeral_within}
use Rattle.sp_text.specs.Text.{top}
use Rattle.sp_text.specs.Matching.{StandsApart, AreSpaced}
use Rattle.sp_text.proofs.Digits.{is_number_parts}
use Rattle.sp_text.proofs.Quick.{quick_field}
use Rattle.sp_text.proofs.Forms.{is_within}

-- A number that was found in its range.
ranged_cases : (b : Bool) (n v : ℕ) → numerals.Value v ≡ cond b (numerals.Value n) numerals.Out → (v ≡ n) × (b ≡ true)
ranged_cases true n v is = (cc, refl)
ranged_cases false n v is = cc

ranged_value : (n v least most : ℕ) → numerals.Value v ≡ numeral_within n least most → (v ≡ n) × ((leb least n && leb n most) ≡ true)
ranged_value n v least most is = ranged_cases (leb least n && leb n most) n v is

-- Where the rest stands apart, a number at the front is the first field.
front_quick : (text : List ℕ) (n end : ℕ) → IsFront text n end → StandsApart (drop end text) → IsQuick text n end
front_quick text n end front apart = record {
  within = front.within;
  digits = front.digits;
  number = front.number;
  behind = λ more. rw (← add-zero end, ← get_or-drop end text 0 0) (apart (omega (arith, length-drop end text)));
}

spaced_front : (ranges : Ranges) (ps : List ℕ) (d : Field) (ds : List Field) (text ns : List ℕ) (n end : ℕ) → 1 ≤ length text → get_or text 0 0 ≡ 32 → IsFront (drop 1 text) n end → is_within d ranges ps n ≡ true
    → AreSpaced ranges ps ds (drop end (drop 1 text)) ns → AreSpaced ranges ps (d ∷ ds) text (n ∷ ns)
spaced_front ranges ps d ds [] ns n end some space front within others = absurd (omega arith)
spaced_front ranges ps d ds (b ∷ text) ns n end some space front within others =
    let field = quick_field text n end (take end text) (drop end text) (front_quick text n end front others.apart) refl refl front.starts in
    record {
      apart = λ _. rw space refl;
      spelled = rw (space, field, is_number_parts (take end text), front.starts, front.digits, others.spelled, front.number) refl;
      within = rw within others.within;
    }

pub spaced_more : (ranges : Ranges) (ps : List ℕ) (fields : List Field) (i : ℕ) (d : Field) (text ns : List ℕ) (n m end most : ℕ) → i < length fields → 1 ≤ length text → get_or text 0 0 ≡ 32 → IsFront (drop 1 text) m end
    → most ≡ top ranges ps (get_or fields i d).most → numerals.Value n ≡ numeral_within m (get_or fields i d).least most
    → AreSpaced ranges ps (drop (i + 1) fields) (drop end (drop 1 text)) ns → AreSpaced ranges ps (drop i fields) text (n ∷ ns)
spaced_more ranges ps fields i d text ns n m end most below some space front most_is found others =
    let value = ranged_value m n (get_or fields i d).least most found in
    rw (drop_more fields i d below) (spaced_front ranges ps (get_or fields i d) (drop (i + 1) fields) text ns n end some space (rw value.0 front) (rw (← most_is, value.0) value.1) others)

pub spaced_none : (ranges : Ranges) (ps : List ℕ) → AreSpaced ranges ps [] [] []
spaced_none ranges ps = record { apart = λ some. absurd (omega arith); spelled = refl; within = refl }
