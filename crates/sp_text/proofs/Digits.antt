-- Numbers, digit by digit.
use Rattle.std.proofs.Common.{◌≡◌, ℕ, zero, suc, ◌+◌, ◌-◌, ◌*◌, ◌%◌, ◌^◌, ◌<◌, ◌≤◌, ◌&&◌, Bool, true, false, List, [], ◌∷◌, ◌++◌, length, get_or, take, drop, refl, ap, subst, ◌∙◌, arith, add-one, take-append-drop}
use Rattle.std.proofs.Math.Nat.{pow-le-pow_right, pow-suc, mod-eq_of_lt}
use Rattle.std.proofs.lemmas.List.{take_more}
use Rattle.std.proofs.lemmas.Bool.Decides.{nat_tests}
use Rattle.std.specs.List.{list_all}
use Rattle.std.specs.Char.{is_ascii_digit}
use Rattle.sp_text.specs.Lines.{is_blank, value_after, value, is_number}
use Rattle.sp_text.specs.Numeral.{starts_number}

pub value_after-push : (n : ℕ) (ds : List ℕ) (d : ℕ) → value_after n (ds ++ d ∷ []) ≡ 10 * value_after n ds + (d - 48)
value_after-push n [] d = refl
value_after-push n (e ∷ ds) d = value_after-push (10 * n + (e - 48)) ds d

pub value_more : (ds : List ℕ) (i : ℕ) → i < length ds → value (take (i + 1) ds) ≡ 10 * value (take i ds) + (get_or ds i 0 - 48)
value_more ds i within = ap (value_after 0) (take_more ds i 0 within) ∙ value_after-push 0 (take i ds) (get_or ds i 0)

digit_small : (b : ℕ) → is_ascii_digit b ≡ true → b - 48 ≤ 9
digit_small b digit = grind (arith, nat_tests)

-- One more digit, where numbers are taken modulo 2^64 and are too small for that to matter.
pub wrapped_more : (ds : List ℕ) (i v w : ℕ) → i < length ds → i + 1 ≤ 19 → v ≡ value (take i ds) → v < 10 ^ i → is_ascii_digit (get_or ds i 0) ≡ true
    → w ≡ (v * 10 % 2 ^ 64 + (get_or ds i 0 - 48)) % 2 ^ 64 → (w ≡ value (take (i + 1) ds)) × (w < 10 ^ (i + 1))
wrapped_more ds i v w within few is below digit sum =
    let small : get_or ds i 0 - 48 ≤ 9 = digit_small (get_or ds i 0) digit in
    let power : 10 ^ i ≤ 10 ^ 18 = pow-le-pow_right {n = 10} (omega arith) {i = i} {j = 18} (omega arith) in
    let ten : 10 ^ (i + 1) ≡ 10 ^ i * 10 = rw add-one (pow-suc 10 i) in
    let product : v * 10 % 2 ^ 64 ≡ v * 10 = mod-eq_of_lt (omega arith) in
    let total : (v * 10 + (get_or ds i 0 - 48)) % 2 ^ 64 ≡ v * 10 + (get_or ds i 0 - 48) = mod-eq_of_lt (omega arith) in
    let same : w ≡ v * 10 + (get_or ds i 0 - 48) = sum ∙ rw product total in
    (omega (arith, value_more ds i within), omega arith)

-- Digits make a number no smaller.
value_after_ge : (n : ℕ) (ds : List ℕ) → n ≤ value_after n ds
value_after_ge n [] = omega arith
value_after_ge n (d ∷ ds) = omega (arith, value_after_ge (10 * n + (d - 48)) ds)

value_after-append : (n : ℕ) (xs ys : List ℕ) → value_after n (xs ++ ys) ≡ value_after (value_after n xs) ys
value_after-append n [] ys = refl
value_after-append n (x ∷ xs) ys = value_after-append (10 * n + (x - 48)) xs ys

pub value_ge : (ds : List ℕ) (i : ℕ) → value (take i ds) ≤ value ds
value_ge ds i = subst (λ (all : List ℕ). value (take i ds) ≤ value all) (take-append-drop i ds) (omega (arith, value_after-append 0 (take i ds) (drop i ds), value_after_ge (value (take i ds)) (drop i ds)))

-- What a number is, in two parts.
and_true : (b : Bool) → b ≡ (b && true)
and_true true = refl
and_true false = refl

pub is_number_parts : (field : List ℕ) → is_number field ≡ (starts_number field && list_all is_ascii_digit field)
unfolding is_number
is_number_parts [] = refl
is_number_parts (d ∷ []) = and_true (is_ascii_digit d)
is_number_parts (d ∷ e ∷ more) = refl

-- Digits are no blanks.
pub and_parts : (b c : Bool) → (b && c) ≡ true → (b ≡ true) × (c ≡ true)
and_parts true c h = (refl, h)
and_parts false c h = cc

pub no_blank : (b : ℕ) → is_ascii_digit b ≡ true → is_blank b ≡ false
no_blank b digit = grind (arith, nat_tests)

pub digits_no_blanks : (bytes : List ℕ) (k : ℕ) → list_all is_ascii_digit bytes ≡ true → k < length bytes → is_blank (get_or bytes k 0) ≡ false
digits_no_blanks [] k all within = absurd (omega arith)
digits_no_blanks (b ∷ bytes) zero all within = no_blank b (and_parts (is_ascii_digit b) (list_all is_ascii_digit bytes) all).0
digits_no_blanks (b ∷ bytes) (suc k) all within = digits_no_blanks bytes k (and_parts (is_ascii_digit b) (list_all is_ascii_digit bytes) all).1 (omega arith)
