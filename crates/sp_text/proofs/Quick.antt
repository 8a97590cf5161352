-- A field that a quick number is.
use Rattle.std.proofs.Common.{◌≡◌, ℕ, zero, suc, ◌-◌, ◌^◌, ◌<◌, ◌≤◌, true, false, List, [], ◌∷◌, length, take, drop, get_or, refl, sym, ◌∙◌, subst, arith}
use Rattle.std.proofs.lemmas.Bool.{false≢true}
use Rattle.std.proofs.lemmas.List.{take_all, get_or-take, length-take-le}
use Rattle.std.proofs.lemmas.List.Sums.{take_while-cons}
use Rattle.std.specs.List.{list_all}
use Rattle.std.specs.Char.{is_ascii_digit}
use Rattle.sp_text.specs.Lines.{is_blank, is_number, fields_from, value}
use Rattle.sp_text.specs.Numeral.{numeral_within, numeral, starts_number, capped_value, leading_digits, Leads, IsQuick}
use Rattle.sp_text.proofs.Digits.{and_parts, is_number_parts, digits_no_blanks}
use Rattle.sp_text.proofs.FieldRuns.{later_field}

numeral_is : (field : List ℕ) (n least most : ℕ) → starts_number field ≡ true → list_all is_ascii_digit field ≡ true → n ≡ value field → numeral_within n least most ≡ numeral field least most
numeral_is field n least most some digits number = rw (is_number_parts field, some, digits, number) refl

pub quick_ranged : (start : List ℕ) (n end least most : ℕ) (field : List ℕ) → IsQuick start n end → field ≡ take end start → starts_number field ≡ true → numeral_within n least most ≡ numeral field least most
quick_ranged start n end least most field quick is some = numeral_is field n least most some (rw is quick.digits) (rw is quick.number)

pub quick_is : (field : List ℕ) (n end least most : ℕ) → IsQuick field n end → end ≡ length field → starts_number field ≡ true → numeral_within n least most ≡ numeral field least most
quick_is field n end least most quick whole some = quick_ranged field n end least most field quick (sym (take_all end field (omega arith))) some

taken_others : (start : List ℕ) (end : ℕ) → end ≤ length start → list_all is_ascii_digit (take end start) ≡ true → (k : ℕ) → k < end → is_blank (get_or start k 0) ≡ false
taken_others start end within digits k below =
    subst (λ (b : ℕ). is_blank b ≡ false) (get_or-take end start k 0 below) (digits_no_blanks (take end start) k digits (omega (arith, length-take-le end start within)))

some_end : (start : List ℕ) (end : ℕ) → starts_number (take end start) ≡ true → 0 < end
some_end start zero some = absurd (false≢true some)
some_end start (suc end) some = omega arith

pub quick_field : (start : List ℕ) (n end : ℕ) (field rest : List ℕ) → IsQuick start n end → field ≡ take end start → rest ≡ drop end start → starts_number field ≡ true → fields_from [] start ≡ field ∷ fields_from [] rest
quick_field start n end field rest quick field_is rest_is some =
    rw (field_is, rest_is) (later_field start end quick.within (taken_others start end quick.within quick.digits) quick.behind (some_end start end (rw field_is at some)))

-- The digits at the front.

pub leading_is : (text : List ℕ) (end : ℕ) → end ≤ length text → list_all is_ascii_digit (take end text) ≡ true → (end < length text → is_ascii_digit (get_or text end 0) ≡ false) → leading_digits text ≡ take end text
leading_is [] zero within digits behind = refl
leading_is [] (suc end) within digits behind = refl
leading_is (b ∷ text) zero within digits behind = take_while-cons is_ascii_digit b text ∙ rw (behind (omega arith)) refl
leading_is (b ∷ text) (suc end) within digits behind =
    let parts = and_parts (is_ascii_digit b) (list_all is_ascii_digit (take end text)) digits in
    take_while-cons is_ascii_digit b text ∙ rw (parts.0, leading_is text end (omega arith) parts.1 (λ more. behind (omega arith))) refl

pub leads : (text : List ℕ) (n end : ℕ) → end ≤ length text → list_all is_ascii_digit (take end text) ≡ true → (end < length text → is_ascii_digit (get_or text end 0) ≡ false) → starts_number (take end text) ≡ true → n ≡ capped_value (value (take end text))
    → Leads text n end
leads text n end within digits behind starts number =
    let same = leading_is text end within digits behind in
    record { spelled = rw (same, is_number_parts (take end text), starts, digits) refl; number = rw same number; digits = same; within = within }

pub leads_none : (text : List ℕ) (end : ℕ) → end ≤ length text → list_all is_ascii_digit (take end text) ≡ true → (end < length text → is_ascii_digit (get_or text end 0) ≡ false) → starts_number (take end text) ≡ false
    → is_number (leading_digits text) ≡ false
leads_none text end within digits behind starts = rw (leading_is text end within digits behind, is_number_parts (take end text), starts) refl

pub small_is : (n v : ℕ) → n < 2 ^ 64 → n ≡ v → n ≡ capped_value v
small_is n v small is = omega arith

pub large_is : (v : ℕ) → 2 ^ 64 ≤ v → 2 ^ 64 - 1 ≡ capped_value v
large_is v large = omega arith
