-- A number has one spelling.
use Rattle.std.proofs.Common.{◌≡◌, ℕ, zero, suc, ◌+◌, ◌-◌, ◌*◌, ◌^◌, ◌<◌, ◌≤◌, true, false, eqb, List, [], ◌∷◌, length, get_or, decimal, refl, sym, ap, ◌∙◌, ne_eqb, arith, tests}
use Rattle.std.proofs.lemmas.Fmt.{digits_decimal, digits_value-decimal, decimal-digits_value, decimal_nonempty, first_decimal, decimal_digit, length-decimal-le}
use Rattle.std.proofs.lemmas.Str.Parse.{IsDigitsTest, FoldsDigits, IsNumeralModel, numerals_by_fold}
use Rattle.std.specs.List.{list_all}
use Rattle.std.specs.Char.{is_ascii_digit}
use Rattle.std.specs.Int.{IsInRange}
use Rattle.sp_text.specs.Lines.{value_after, value, is_number}
use Rattle.sp_text.specs.Numeral.{starts_number}
use Rattle.sp_text.specs.Meaning.{HasNoLf}
use Rattle.sp_text.proofs.Digits.{and_parts, is_number_parts}

digit_range : (c : ℕ) → is_ascii_digit c ≡ true → IsInRange 48 57 c
digit_range c h = grind (arith, tests)

range_digit : (c : ℕ) → IsInRange 48 57 c → is_ascii_digit c ≡ true
range_digit c h = grind (arith, tests)

digits_test : IsDigitsTest (λ ds. list_all is_ascii_digit ds ≡ true)
digits_test = record {
  empty = refl;
  parts = λ c cs h. let p = and_parts (is_ascii_digit c) (list_all is_ascii_digit cs) h in (digit_range c p.0, p.1);
  more = λ c cs first rest. rw (range_digit c first) rest;
}

folds : FoldsDigits value_after
folds = record { empty = λ n. refl; more = λ n c cs h. let same : 10 * n + (c - 48) ≡ n * 10 + (c - 48) = omega arith in ap (λ (m : ℕ). value_after m cs) same }

numerals : IsNumeralModel (λ ds. list_all is_ascii_digit ds ≡ true) value
numerals = numerals_by_fold (λ ds. list_all is_ascii_digit ds ≡ true) digits_test value_after folds

pub decimal_digits : (n : ℕ) → n < 2 ^ 64 → list_all is_ascii_digit (decimal n) ≡ true
decimal_digits n small = digits_decimal numerals n small

pub value_decimal : (n : ℕ) → n < 2 ^ 64 → value (decimal n) ≡ n
value_decimal n small = digits_value-decimal numerals n small

starts_from : (ds : List ℕ) → 0 < length ds → (get_or ds 0 0 ≡ 48 → length ds ≡ 1) → starts_number ds ≡ true
starts_from [] some lead = absurd (omega arith)
starts_from (d ∷ []) some lead = refl
starts_from (d ∷ e ∷ more) some lead = rw (ne_eqb d 48 (λ h. omega (arith, lead h))) refl

starts_means : (ds : List ℕ) → starts_number ds ≡ true → (0 < length ds) × (get_or ds 0 0 ≡ 48 → length ds ≡ 1)
starts_means [] h = cc
starts_means (d ∷ []) h = (omega arith, λ _. refl)
starts_means (d ∷ e ∷ more) h = (omega arith, λ zero_first. let yes_zero : eqb d 48 ≡ true = rw zero_first refl in absurd (grind (arith, tests)))

lead_decimal : (n : ℕ) → n < 2 ^ 64 → get_or (decimal n) 0 0 ≡ 48 → length (decimal n) ≡ 1
lead_decimal zero small h = ap length (decimal_digit 0 (omega arith))
lead_decimal (suc n) small h = absurd (omega (arith, first_decimal (suc n) (omega arith) small))

-- A number is spelled by its decimal digits,
pub decimal_number : (n : ℕ) → n < 2 ^ 64 → is_number (decimal n) ≡ true
decimal_number n small = is_number_parts (decimal n) ∙ rw (starts_from (decimal n) (decimal_nonempty n small) (lead_decimal n small), decimal_digits n small) refl

-- and by nothing else.
pub number_decimal : (ds : List ℕ) → is_number ds ≡ true → value ds < 2 ^ 64 → ds ≡ decimal (value ds)
number_decimal ds h small =
    let parts = and_parts (starts_number ds) (list_all is_ascii_digit ds) (sym (is_number_parts ds) ∙ h) in
    let means = starts_means ds parts.0 in
    sym (decimal-digits_value numerals ds parts.1 means.0 means.1 small)

pub decimal_short : (n : ℕ) → n < 2 ^ 64 → length (decimal n) ≤ 20
decimal_short n small = length-decimal-le 20 n (omega arith) (omega arith) small

pub vertex_short : (n : ℕ) → n < 2 ^ 32 → length (decimal n) ≤ 10
vertex_short n small = length-decimal-le 10 n (omega arith) (omega arith) (omega arith)

-- Digits are neither spaces nor LFs.
no_space : (d : ℕ) → is_ascii_digit d ≡ true → eqb d 32 ≡ false
no_space d h = let range = digit_range d h in ne_eqb d 32 (λ e. omega (arith, e, range.0))

pub digits_no_space : (ds : List ℕ) → list_all is_ascii_digit ds ≡ true → (k : ℕ) (e : ℕ) → k < length ds → eqb (get_or ds k e) 32 ≡ false
digits_no_space [] h k e within = absurd (omega arith)
digits_no_space (d ∷ ds) h zero e within = no_space d (and_parts (is_ascii_digit d) (list_all is_ascii_digit ds) h).0
digits_no_space (d ∷ ds) h (suc k) e within = digits_no_space ds (and_parts (is_ascii_digit d) (list_all is_ascii_digit ds) h).1 k e (omega arith)

pub decimal_no_space : (n : ℕ) → n < 2 ^ 64 → (k : ℕ) (e : ℕ) → k < length (decimal n) → eqb (get_or (decimal n) k e) 32 ≡ false
decimal_no_space n small = digits_no_space (decimal n) (decimal_digits n small)

digits_no_lf : (ds : List ℕ) → list_all is_ascii_digit ds ≡ true → HasNoLf ds
digits_no_lf [] h = tt
digits_no_lf (d ∷ ds) h =
    let p = and_parts (is_ascii_digit d) (list_all is_ascii_digit ds) h in
    let range = digit_range d p.0 in
    (λ e. omega (arith, e, range.0), digits_no_lf ds p.1)

pub decimal_no_lf : (n : ℕ) → n < 2 ^ 64 → HasNoLf (decimal n)
decimal_no_lf n small = digits_no_lf (decimal n) (decimal_digits n small)
