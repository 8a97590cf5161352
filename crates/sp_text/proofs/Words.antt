-- Eight digits that are added up in one word.
use Rattle.std.proofs.Common.{◌≡◌, ℕ, zero, suc, ◌+◌, ◌-◌, ◌*◌, ◌/◌, ◌%◌, ◌^◌, ◌<◌, ◌≤◌, List, [], ◌∷◌, length, take, get_or, map, replicate, refl, ap, ◌∙◌, arith, true}
use Rattle.std.specs.Prelude.{bit_and}
use Rattle.std.specs.List.{AllByRecursion, list_all}
use Rattle.std.specs.Simd.Lanes.{number_l}
use Rattle.std.proofs.lemmas.Nat.{and_block, and_mask}
use Rattle.std.proofs.lemmas.List.{get_or-take, length-take-le}
use Rattle.std.specs.Char.{is_ascii_digit}
use Rattle.sp_text.specs.Lines.{value}
use Rattle.sp_text.proofs.Lanes.{IsAscii, digit_ascii, digit_at, take_front}

-- A mask of the low bits of each lane.
and_lanes : (w m : ℕ) → 2 ^ m - 1 < 2 ^ w → (cs : List ℕ) → AllByRecursion (λ c. c < 2 ^ w) cs → bit_and (number_l (2 ^ w) cs) (number_l (2 ^ w) (replicate (length cs) (2 ^ m - 1))) ≡ number_l (2 ^ w) (map (λ c. c % 2 ^ m) cs)
and_lanes w m fits [] small = refl
and_lanes w m fits (c ∷ cs) small =
    let n = number_l (2 ^ w) cs in
    let ms = number_l (2 ^ w) (replicate (length cs) (2 ^ m - 1)) in
    let left : c + 2 ^ w * n ≡ n * 2 ^ w + c = omega arith in
    let right : 2 ^ m - 1 + 2 ^ w * ms ≡ ms * 2 ^ w + (2 ^ m - 1) = omega arith in
    let block : bit_and (n * 2 ^ w + c) (ms * 2 ^ w + (2 ^ m - 1)) ≡ bit_and n ms * 2 ^ w + bit_and c (2 ^ m - 1) = and_block w n ms c (2 ^ m - 1) small.0 fits in
    let more : bit_and n ms ≡ number_l (2 ^ w) (map (λ c. c % 2 ^ m) cs) = and_lanes w m fits cs small.1 in
    let one : bit_and c (2 ^ m - 1) ≡ c % 2 ^ m = and_mask c m in
    let whole : bit_and (c + 2 ^ w * n) (2 ^ m - 1 + 2 ^ w * ms) ≡ bit_and n ms * 2 ^ w + bit_and c (2 ^ m - 1) = rw (left, right) block in
    whole ∙ rw (more, one) (omega arith)

-- Neighbours are added up, by a factor of 10, of 100 and of 10,000.
pairs_are : (e0 e1 e2 e3 e4 e5 e6 e7 : ℕ) → e0 ≤ 9 → e1 ≤ 9 → e2 ≤ 9 → e3 ≤ 9 → e4 ≤ 9 → e5 ≤ 9 → e6 ≤ 9 → e7 ≤ 9
    → number_l 256 (e0 ∷ e1 ∷ e2 ∷ e3 ∷ e4 ∷ e5 ∷ e6 ∷ e7 ∷ []) * 2561 % 2 ^ 64 / 2 ^ 8 ≡ number_l 65536 ((10 * e0 + e1 + 256 * (10 * e1 + e2)) ∷ (10 * e2 + e3 + 256 * (10 * e3 + e4)) ∷ (10 * e4 + e5 + 256 * (10 * e5 + e6)) ∷ (10 * e6 + e7) ∷ [])
pairs_are e0 e1 e2 e3 e4 e5 e6 e7 s0 s1 s2 s3 s4 s5 s6 s7 = omega arith

fours_are : (p0 p1 p2 p3 : ℕ) → p0 ≤ 99 → p1 ≤ 99 → p2 ≤ 99 → p3 ≤ 99
    → number_l 65536 (p0 ∷ p1 ∷ p2 ∷ p3 ∷ []) * 6553601 % 2 ^ 64 / 2 ^ 16 ≡ number_l 4294967296 ((100 * p0 + p1 + 65536 * (100 * p1 + p2)) ∷ (100 * p2 + p3) ∷ [])
fours_are p0 p1 p2 p3 s0 s1 s2 s3 = omega arith

low_byte : (p q : ℕ) → p ≤ 99 → (p + 256 * q) % 256 ≡ p
low_byte p q small = omega arith

low_four : (f g h : ℕ) → f ≤ 9999 → number_l 4294967296 ((f + 65536 * g) ∷ h ∷ []) % 2 ^ 16 ≡ f
low_four f g h small = omega arith

high_four : (f g h : ℕ) → f ≤ 9999 → g ≤ 9999 → number_l 4294967296 ((f + 65536 * g) ∷ h ∷ []) / 2 ^ 32 ≡ h
high_four f g h small few = omega arith

-- The two fours are the lowest and the third of the 16 bits each.
abbrev pub of_fours : ℕ → ℕ
of_fours fours = (bit_and fours 65535 * 10000 % 2 ^ 64 + fours / 2 ^ 32) % 2 ^ 64

-- From the digits on.

fours_summed : (p0 p1 p2 p3 n : ℕ) → p0 ≤ 99 → p1 ≤ 99 → p2 ≤ 99 → p3 ≤ 99 → n ≡ number_l 65536 (p0 ∷ p1 ∷ p2 ∷ p3 ∷ []) → of_fours (n * 6553601 % 2 ^ 64 / 2 ^ 16) ≡ 10000 * (100 * p0 + p1) + (100 * p2 + p3)
fours_summed p0 p1 p2 p3 n s0 s1 s2 s3 is =
    let fours : ℕ = number_l 4294967296 ((100 * p0 + p1 + 65536 * (100 * p1 + p2)) ∷ (100 * p2 + p3) ∷ []) in
    let lanes : n * 6553601 % 2 ^ 64 / 2 ^ 16 ≡ fours = ap (λ (x : ℕ). x * 6553601 % 2 ^ 64 / 2 ^ 16) is ∙ fours_are p0 p1 p2 p3 s0 s1 s2 s3 in
    let low : bit_and fours 65535 ≡ 100 * p0 + p1 = and_mask fours 16 ∙ low_four (100 * p0 + p1) (100 * p1 + p2) (100 * p2 + p3) (omega arith) in
    let high : fours / 2 ^ 32 ≡ 100 * p2 + p3 = high_four (100 * p0 + p1) (100 * p1 + p2) (100 * p2 + p3) (omega arith) (omega arith) in
    ap of_fours lanes ∙ rw (low, high) (omega arith)

pairs_summed : (e0 e1 e2 e3 e4 e5 e6 e7 n : ℕ) → e0 ≤ 9 → e1 ≤ 9 → e2 ≤ 9 → e3 ≤ 9 → e4 ≤ 9 → e5 ≤ 9 → e6 ≤ 9 → e7 ≤ 9 → n ≡ number_l 256 (e0 ∷ e1 ∷ e2 ∷ e3 ∷ e4 ∷ e5 ∷ e6 ∷ e7 ∷ [])
    → of_fours (bit_and (n * 2561 % 2 ^ 64 / 2 ^ 8) 71777214294589695 * 6553601 % 2 ^ 64 / 2 ^ 16) ≡ 10000 * (100 * (10 * e0 + e1) + (10 * e2 + e3)) + (100 * (10 * e4 + e5) + (10 * e6 + e7))
pairs_summed e0 e1 e2 e3 e4 e5 e6 e7 n s0 s1 s2 s3 s4 s5 s6 s7 is =
    let l0 : ℕ = 10 * e0 + e1 + 256 * (10 * e1 + e2) in
    let l1 : ℕ = 10 * e2 + e3 + 256 * (10 * e3 + e4) in
    let l2 : ℕ = 10 * e4 + e5 + 256 * (10 * e5 + e6) in
    let l3 : ℕ = 10 * e6 + e7 in
    let lanes : n * 2561 % 2 ^ 64 / 2 ^ 8 ≡ number_l 65536 (l0 ∷ l1 ∷ l2 ∷ l3 ∷ []) = ap (λ (x : ℕ). x * 2561 % 2 ^ 64 / 2 ^ 8) is ∙ pairs_are e0 e1 e2 e3 e4 e5 e6 e7 s0 s1 s2 s3 s4 s5 s6 s7 in
    let masked : bit_and (number_l 65536 (l0 ∷ l1 ∷ l2 ∷ l3 ∷ [])) 71777214294589695 ≡ number_l 65536 (l0 % 256 ∷ l1 % 256 ∷ l2 % 256 ∷ l3 % 256 ∷ []) =
    and_lanes 16 8 (omega arith) (l0 ∷ l1 ∷ l2 ∷ l3 ∷ []) (omega arith, (omega arith, (omega arith, (omega arith, tt)))) in
    let m0 : l0 % 256 ≡ 10 * e0 + e1 = low_byte (10 * e0 + e1) (10 * e1 + e2) (omega arith) in
    let m1 : l1 % 256 ≡ 10 * e2 + e3 = low_byte (10 * e2 + e3) (10 * e3 + e4) (omega arith) in
    let m2 : l2 % 256 ≡ 10 * e4 + e5 = low_byte (10 * e4 + e5) (10 * e5 + e6) (omega arith) in
    let m3 : l3 % 256 ≡ 10 * e6 + e7 = omega arith in
    fours_summed (10 * e0 + e1) (10 * e2 + e3) (10 * e4 + e5) (10 * e6 + e7) (bit_and (n * 2561 % 2 ^ 64 / 2 ^ 8) 71777214294589695) (omega arith) (omega arith) (omega arith) (omega arith)
    (ap (λ (x : ℕ). bit_and x 71777214294589695) lanes ∙ (masked ∙ rw (m0, m1, m2, m3) refl))

-- This is the value of eight digits, of which the first is the lowest byte; the upper halves of the bytes don't count.
abbrev pub summed : ℕ → ℕ
summed word = of_fours (bit_and (bit_and word 1085102592571150095 * 2561 % 2 ^ 64 / 2 ^ 8) 71777214294589695 * 6553601 % 2 ^ 64 / 2 ^ 16)

abbrev pub IsDigit : ℕ → Type 0
IsDigit c = (c < 2 ^ 8) × (c % 2 ^ 4 ≤ 9)

summed_is : (c0 c1 c2 c3 c4 c5 c6 c7 : ℕ) → IsDigit c0 → IsDigit c1 → IsDigit c2 → IsDigit c3 → IsDigit c4 → IsDigit c5 → IsDigit c6 → IsDigit c7
    → summed (number_l 256 (c0 ∷ c1 ∷ c2 ∷ c3 ∷ c4 ∷ c5 ∷ c6 ∷ c7 ∷ [])) ≡ 10000 * (100 * (10 * (c0 % 2 ^ 4) + c1 % 2 ^ 4) + (10 * (c2 % 2 ^ 4) + c3 % 2 ^ 4)) + (100 * (10 * (c4 % 2 ^ 4) + c5 % 2 ^ 4) + (10 * (c6 % 2 ^ 4) + c7 % 2 ^ 4))
summed_is c0 c1 c2 c3 c4 c5 c6 c7 d0 d1 d2 d3 d4 d5 d6 d7 =
    let e0 = c0 % 2 ^ 4 in
    let e1 = c1 % 2 ^ 4 in
    let e2 = c2 % 2 ^ 4 in
    let e3 = c3 % 2 ^ 4 in
    let e4 = c4 % 2 ^ 4 in
    let e5 = c5 % 2 ^ 4 in
    let e6 = c6 % 2 ^ 4 in
    let e7 = c7 % 2 ^ 4 in
    let digits : bit_and (number_l 256 (c0 ∷ c1 ∷ c2 ∷ c3 ∷ c4 ∷ c5 ∷ c6 ∷ c7 ∷ [])) 1085102592571150095 ≡ number_l 256 (e0 ∷ e1 ∷ e2 ∷ e3 ∷ e4 ∷ e5 ∷ e6 ∷ e7 ∷ []) =
    and_lanes 8 4 (omega arith) (c0 ∷ c1 ∷ c2 ∷ c3 ∷ c4 ∷ c5 ∷ c6 ∷ c7 ∷ []) (d0.0, (d1.0, (d2.0, (d3.0, (d4.0, (d5.0, (d6.0, (d7.0, tt)))))))) in
    pairs_summed e0 e1 e2 e3 e4 e5 e6 e7 (bit_and (number_l 256 (c0 ∷ c1 ∷ c2 ∷ c3 ∷ c4 ∷ c5 ∷ c6 ∷ c7 ∷ [])) 1085102592571150095) d0.1 d1.1 d2.1 d3.1 d4.1 d5.1 d6.1 d7.1 digits

zero_digit : IsDigit 0
zero_digit = (omega arith, omega arith)

ascii_digit : (b : ℕ) → IsAscii b → IsDigit b × (b % 2 ^ 4 ≡ b - 48)
ascii_digit b is = ((omega arith, omega arith), omega arith)

-- By how many digits there are, what moves them to the end of a word.
abbrev pub shifts : List ℕ
shifts = 0 ∷ 72057594037927936 ∷ 281474976710656 ∷ 1099511627776 ∷ 4294967296 ∷ 16777216 ∷ 65536 ∷ 256 ∷ 1 ∷ []

few_summed : (k b0 b1 b2 b3 b4 b5 b6 b7 : ℕ) → 0 < k → k ≤ 8 → ((i : ℕ) → i < k → IsAscii (get_or (b0 ∷ b1 ∷ b2 ∷ b3 ∷ b4 ∷ b5 ∷ b6 ∷ b7 ∷ []) i 0))
    → summed (number_l 256 (b0 ∷ b1 ∷ b2 ∷ b3 ∷ b4 ∷ b5 ∷ b6 ∷ b7 ∷ []) % 2 ^ 64 * get_or shifts k 0 % 2 ^ 64) ≡ value (take k (b0 ∷ b1 ∷ b2 ∷ b3 ∷ b4 ∷ b5 ∷ b6 ∷ b7 ∷ []))
few_summed zero b0 b1 b2 b3 b4 b5 b6 b7 some few are = absurd (omega arith)
few_summed (suc zero) b0 b1 b2 b3 b4 b5 b6 b7 some few are =
    let a0 : IsAscii b0 = are 0 (omega arith) in
    let d0 : IsDigit b0 × (b0 % 2 ^ 4 ≡ b0 - 48) = ascii_digit b0 a0 in
    let shifted : number_l 256 (b0 ∷ b1 ∷ b2 ∷ b3 ∷ b4 ∷ b5 ∷ b6 ∷ b7 ∷ []) % 2 ^ 64 * 72057594037927936 % 2 ^ 64 ≡ number_l 256 (0 ∷ 0 ∷ 0 ∷ 0 ∷ 0 ∷ 0 ∷ 0 ∷ b0 ∷ []) = omega arith in
    ap summed shifted ∙ (summed_is 0 0 0 0 0 0 0 b0 zero_digit zero_digit zero_digit zero_digit zero_digit zero_digit zero_digit d0.0 ∙ omega (arith, d0.1))
few_summed (suc (suc zero)) b0 b1 b2 b3 b4 b5 b6 b7 some few are =
    let a0 : IsAscii b0 = are 0 (omega arith) in
    let d0 : IsDigit b0 × (b0 % 2 ^ 4 ≡ b0 - 48) = ascii_digit b0 a0 in
    let a1 : IsAscii b1 = are 1 (omega arith) in
    let d1 : IsDigit b1 × (b1 % 2 ^ 4 ≡ b1 - 48) = ascii_digit b1 a1 in
    let shifted : number_l 256 (b0 ∷ b1 ∷ b2 ∷ b3 ∷ b4 ∷ b5 ∷ b6 ∷ b7 ∷ []) % 2 ^ 64 * 281474976710656 % 2 ^ 64 ≡ number_l 256 (0 ∷ 0 ∷ 0 ∷ 0 ∷ 0 ∷ 0 ∷ b0 ∷ b1 ∷ []) = omega arith in
    ap summed shifted ∙ (summed_is 0 0 0 0 0 0 b0 b1 zero_digit zero_digit zero_digit zero_digit zero_digit zero_digit d0.0 d1.0 ∙ omega (arith, d0.1, d1.1))
few_summed (suc (suc (suc zero))) b0 b1 b2 b3 b4 b5 b6 b7 some few are =
    let a0 : IsAscii b0 = are 0 (omega arith) in
    let d0 : IsDigit b0 × (b0 % 2 ^ 4 ≡ b0 - 48) = ascii_digit b0 a0 in
    let a1 : IsAscii b1 = are 1 (omega arith) in
    let d1 : IsDigit b1 × (b1 % 2 ^ 4 ≡ b1 - 48) = ascii_digit b1 a1 in
    let a2 : IsAscii b2 = are 2 (omega arith) in
    let d2 : IsDigit b2 × (b2 % 2 ^ 4 ≡ b2 - 48) = ascii_digit b2 a2 in
    let shifted : number_l 256 (b0 ∷ b1 ∷ b2 ∷ b3 ∷ b4 ∷ b5 ∷ b6 ∷ b7 ∷ []) % 2 ^ 64 * 1099511627776 % 2 ^ 64 ≡ number_l 256 (0 ∷ 0 ∷ 0 ∷ 0 ∷ 0 ∷ b0 ∷ b1 ∷ b2 ∷ []) = omega arith in
    ap summed shifted ∙ (summed_is 0 0 0 0 0 b0 b1 b2 zero_digit zero_digit zero_digit zero_digit zero_digit d0.0 d1.0 d2.0 ∙ omega (arith, d0.1, d1.1, d2.1))
few_summed (suc (suc (suc (suc zero)))) b0 b1 b2 b3 b4 b5 b6 b7 some few are =
    let a0 : IsAscii b0 = are 0 (omega arith) in
    let d0 : IsDigit b0 × (b0 % 2 ^ 4 ≡ b0 - 48) = ascii_digit b0 a0 in
    let a1 : IsAscii b1 = are 1 (omega arith) in
    let d1 : IsDigit b1 × (b1 % 2 ^ 4 ≡ b1 - 48) = ascii_digit b1 a1 in
    let a2 : IsAscii b2 = are 2 (omega arith) in
    let d2 : IsDigit b2 × (b2 % 2 ^ 4 ≡ b2 - 48) = ascii_digit b2 a2 in
    let a3 : IsAscii b3 = are 3 (omega arith) in
    let d3 : IsDigit b3 × (b3 % 2 ^ 4 ≡ b3 - 48) = ascii_digit b3 a3 in
    let shifted : number_l 256 (b0 ∷ b1 ∷ b2 ∷ b3 ∷ b4 ∷ b5 ∷ b6 ∷ b7 ∷ []) % 2 ^ 64 * 4294967296 % 2 ^ 64 ≡ number_l 256 (0 ∷ 0 ∷ 0 ∷ 0 ∷ b0 ∷ b1 ∷ b2 ∷ b3 ∷ []) = omega arith in
    ap summed shifted ∙ (summed_is 0 0 0 0 b0 b1 b2 b3 zero_digit zero_digit zero_digit zero_digit d0.0 d1.0 d2.0 d3.0 ∙ omega (arith, d0.1, d1.1, d2.1, d3.1))
few_summed (suc (suc (suc (suc (suc zero))))) b0 b1 b2 b3 b4 b5 b6 b7 some few are =
    let a0 : IsAscii b0 = are 0 (omega arith) in
    let d0 : IsDigit b0 × (b0 % 2 ^ 4 ≡ b0 - 48) = ascii_digit b0 a0 in
    let a1 : IsAscii b1 = are 1 (omega arith) in
    let d1 : IsDigit b1 × (b1 % 2 ^ 4 ≡ b1 - 48) = ascii_digit b1 a1 in
    let a2 : IsAscii b2 = are 2 (omega arith) in
    let d2 : IsDigit b2 × (b2 % 2 ^ 4 ≡ b2 - 48) = ascii_digit b2 a2 in
    let a3 : IsAscii b3 = are 3 (omega arith) in
    let d3 : IsDigit b3 × (b3 % 2 ^ 4 ≡ b3 - 48) = ascii_digit b3 a3 in
    let a4 : IsAscii b4 = are 4 (omega arith) in
    let d4 : IsDigit b4 × (b4 % 2 ^ 4 ≡ b4 - 48) = ascii_digit b4 a4 in
    let shifted : number_l 256 (b0 ∷ b1 ∷ b2 ∷ b3 ∷ b4 ∷ b5 ∷ b6 ∷ b7 ∷ []) % 2 ^ 64 * 16777216 % 2 ^ 64 ≡ number_l 256 (0 ∷ 0 ∷ 0 ∷ b0 ∷ b1 ∷ b2 ∷ b3 ∷ b4 ∷ []) = omega arith in
    ap summed shifted ∙ (summed_is 0 0 0 b0 b1 b2 b3 b4 zero_digit zero_digit zero_digit d0.0 d1.0 d2.0 d3.0 d4.0 ∙ omega (arith, d0.1, d1.1, d2.1, d3.1, d4.1))
few_summed (suc (suc (suc (suc (suc (suc zero)))))) b0 b1 b2 b3 b4 b5 b6 b7 some few are =
    let a0 : IsAscii b0 = are 0 (omega arith) in
    let d0 : IsDigit b0 × (b0 % 2 ^ 4 ≡ b0 - 48) = ascii_digit b0 a0 in
    let a1 : IsAscii b1 = are 1 (omega arith) in
    let d1 : IsDigit b1 × (b1 % 2 ^ 4 ≡ b1 - 48) = ascii_digit b1 a1 in
    let a2 : IsAscii b2 = are 2 (omega arith) in
    let d2 : IsDigit b2 × (b2 % 2 ^ 4 ≡ b2 - 48) = ascii_digit b2 a2 in
    let a3 : IsAscii b3 = are 3 (omega arith) in
    let d3 : IsDigit b3 × (b3 % 2 ^ 4 ≡ b3 - 48) = ascii_digit b3 a3 in
    let a4 : IsAscii b4 = are 4 (omega arith) in
    let d4 : IsDigit b4 × (b4 % 2 ^ 4 ≡ b4 - 48) = ascii_digit b4 a4 in
    let a5 : IsAscii b5 = are 5 (omega arith) in
    let d5 : IsDigit b5 × (b5 % 2 ^ 4 ≡ b5 - 48) = ascii_digit b5 a5 in
    let shifted : number_l 256 (b0 ∷ b1 ∷ b2 ∷ b3 ∷ b4 ∷ b5 ∷ b6 ∷ b7 ∷ []) % 2 ^ 64 * 65536 % 2 ^ 64 ≡ number_l 256 (0 ∷ 0 ∷ b0 ∷ b1 ∷ b2 ∷ b3 ∷ b4 ∷ b5 ∷ []) = omega arith in
    ap summed shifted ∙ (summed_is 0 0 b0 b1 b2 b3 b4 b5 zero_digit zero_digit d0.0 d1.0 d2.0 d3.0 d4.0 d5.0 ∙ omega (arith, d0.1, d1.1, d2.1, d3.1, d4.1, d5.1))
few_summed (suc (suc (suc (suc (suc (suc (suc zero))))))) b0 b1 b2 b3 b4 b5 b6 b7 some few are =
    let a0 : IsAscii b0 = are 0 (omega arith) in
    let d0 : IsDigit b0 × (b0 % 2 ^ 4 ≡ b0 - 48) = ascii_digit b0 a0 in
    let a1 : IsAscii b1 = are 1 (omega arith) in
    let d1 : IsDigit b1 × (b1 % 2 ^ 4 ≡ b1 - 48) = ascii_digit b1 a1 in
    let a2 : IsAscii b2 = are 2 (omega arith) in
    let d2 : IsDigit b2 × (b2 % 2 ^ 4 ≡ b2 - 48) = ascii_digit b2 a2 in
    let a3 : IsAscii b3 = are 3 (omega arith) in
    let d3 : IsDigit b3 × (b3 % 2 ^ 4 ≡ b3 - 48) = ascii_digit b3 a3 in
    let a4 : IsAscii b4 = are 4 (omega arith) in
    let d4 : IsDigit b4 × (b4 % 2 ^ 4 ≡ b4 - 48) = ascii_digit b4 a4 in
    let a5 : IsAscii b5 = are 5 (omega arith) in
    let d5 : IsDigit b5 × (b5 % 2 ^ 4 ≡ b5 - 48) = ascii_digit b5 a5 in
    let a6 : IsAscii b6 = are 6 (omega arith) in
    let d6 : IsDigit b6 × (b6 % 2 ^ 4 ≡ b6 - 48) = ascii_digit b6 a6 in
    let shifted : number_l 256 (b0 ∷ b1 ∷ b2 ∷ b3 ∷ b4 ∷ b5 ∷ b6 ∷ b7 ∷ []) % 2 ^ 64 * 256 % 2 ^ 64 ≡ number_l 256 (0 ∷ b0 ∷ b1 ∷ b2 ∷ b3 ∷ b4 ∷ b5 ∷ b6 ∷ []) = omega arith in
    ap summed shifted ∙ (summed_is 0 b0 b1 b2 b3 b4 b5 b6 zero_digit d0.0 d1.0 d2.0 d3.0 d4.0 d5.0 d6.0 ∙ omega (arith, d0.1, d1.1, d2.1, d3.1, d4.1, d5.1, d6.1))
few_summed (suc (suc (suc (suc (suc (suc (suc (suc zero)))))))) b0 b1 b2 b3 b4 b5 b6 b7 some few are =
    let a0 : IsAscii b0 = are 0 (omega arith) in
    let d0 : IsDigit b0 × (b0 % 2 ^ 4 ≡ b0 - 48) = ascii_digit b0 a0 in
    let a1 : IsAscii b1 = are 1 (omega arith) in
    let d1 : IsDigit b1 × (b1 % 2 ^ 4 ≡ b1 - 48) = ascii_digit b1 a1 in
    let a2 : IsAscii b2 = are 2 (omega arith) in
    let d2 : IsDigit b2 × (b2 % 2 ^ 4 ≡ b2 - 48) = ascii_digit b2 a2 in
    let a3 : IsAscii b3 = are 3 (omega arith) in
    let d3 : IsDigit b3 × (b3 % 2 ^ 4 ≡ b3 - 48) = ascii_digit b3 a3 in
    let a4 : IsAscii b4 = are 4 (omega arith) in
    let d4 : IsDigit b4 × (b4 % 2 ^ 4 ≡ b4 - 48) = ascii_digit b4 a4 in
    let a5 : IsAscii b5 = are 5 (omega arith) in
    let d5 : IsDigit b5 × (b5 % 2 ^ 4 ≡ b5 - 48) = ascii_digit b5 a5 in
    let a6 : IsAscii b6 = are 6 (omega arith) in
    let d6 : IsDigit b6 × (b6 % 2 ^ 4 ≡ b6 - 48) = ascii_digit b6 a6 in
    let a7 : IsAscii b7 = are 7 (omega arith) in
    let d7 : IsDigit b7 × (b7 % 2 ^ 4 ≡ b7 - 48) = ascii_digit b7 a7 in
    let shifted : number_l 256 (b0 ∷ b1 ∷ b2 ∷ b3 ∷ b4 ∷ b5 ∷ b6 ∷ b7 ∷ []) % 2 ^ 64 * 1 % 2 ^ 64 ≡ number_l 256 (b0 ∷ b1 ∷ b2 ∷ b3 ∷ b4 ∷ b5 ∷ b6 ∷ b7 ∷ []) = omega arith in
    ap summed shifted ∙ (summed_is b0 b1 b2 b3 b4 b5 b6 b7 d0.0 d1.0 d2.0 d3.0 d4.0 d5.0 d6.0 d7.0 ∙ omega (arith, d0.1, d1.1, d2.1, d3.1, d4.1, d5.1, d6.1, d7.1))
few_summed (suc (suc (suc (suc (suc (suc (suc (suc (suc k))))))))) b0 b1 b2 b3 b4 b5 b6 b7 some few are = absurd (omega arith)

eight_summed : (text : List ℕ) (end : ℕ) → length text ≡ 8 → 0 < end → end ≤ 8 → ((i : ℕ) → i < end → IsAscii (get_or text i 0)) → summed (number_l 256 text % 2 ^ 64 * get_or shifts end 0 % 2 ^ 64) ≡ value (take end text)
eight_summed [] end long some few are = absurd (omega arith)
eight_summed (b0 ∷ []) end long some few are = absurd (omega arith)
eight_summed (b0 ∷ b1 ∷ []) end long some few are = absurd (omega arith)
eight_summed (b0 ∷ b1 ∷ b2 ∷ []) end long some few are = absurd (omega arith)
eight_summed (b0 ∷ b1 ∷ b2 ∷ b3 ∷ []) end long some few are = absurd (omega arith)
eight_summed (b0 ∷ b1 ∷ b2 ∷ b3 ∷ b4 ∷ []) end long some few are = absurd (omega arith)
eight_summed (b0 ∷ b1 ∷ b2 ∷ b3 ∷ b4 ∷ b5 ∷ []) end long some few are = absurd (omega arith)
eight_summed (b0 ∷ b1 ∷ b2 ∷ b3 ∷ b4 ∷ b5 ∷ b6 ∷ []) end long some few are = absurd (omega arith)
eight_summed (b0 ∷ b1 ∷ b2 ∷ b3 ∷ b4 ∷ b5 ∷ b6 ∷ b7 ∷ []) end long some few are = few_summed end b0 b1 b2 b3 b4 b5 b6 b7 some few are
eight_summed (b0 ∷ b1 ∷ b2 ∷ b3 ∷ b4 ∷ b5 ∷ b6 ∷ b7 ∷ b8 ∷ text) end long some few are = absurd (omega arith)

-- The digits that a text begins with.
pub packed_is : (text : List ℕ) (end : ℕ) → 8 ≤ length text → 0 < end → end ≤ 8 → list_all is_ascii_digit (take end text) ≡ true → summed (number_l 256 (take 8 text) % 2 ^ 64 * get_or shifts end 0 % 2 ^ 64) ≡ value (take end text)
packed_is text end long some few all =
    let eight : length (take 8 text) ≡ 8 = length-take-le 8 text long in
    let digits : (i : ℕ) → i < end → IsAscii (get_or (take 8 text) i 0) = λ i below. digit_ascii (get_or (take 8 text) i 0) (rw (get_or-take 8 text i 0 (omega arith)) (digit_at text end i all below (omega arith))) in
    eight_summed (take 8 text) end eight some few digits ∙ ap value (take_front text end 8 (omega arith))
