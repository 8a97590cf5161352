-- Bytes that are read at once: numbers of few digits, and the first LF.
use Rattle.std.proofs.Common.{◌≡◌, ◌≢◌, ℕ, zero, suc, ◌+◌, ◌-◌, ◌*◌, ◌/◌, ◌%◌, ◌^◌, ◌<◌, ◌≤◌, Bool, true, false, cond, not, ltb, eqb, List, [], ◌∷◌, length, take, drop, get_or, map, replicate, refl, sym, ap, ◌∙◌, zero-add, add-zero, arith, Fits, w8}
use Rattle.std.proofs.Math.Nat.{div-one, zero-div}
use Rattle.std.proofs.lemmas.Nat.{shr-shr}
use Rattle.std.proofs.lemmas.Bool.{false≢true, ne_eqb}
use Rattle.std.proofs.lemmas.Bool.Decides.{nat_tests}
use Rattle.std.proofs.lemmas.List.{get_or-take, get_or-drop, length-map, length-take-le, length-drop}
use Rattle.std.proofs.lemmas.List.Sums.{prefix_len_passes, prefix_len_stops}
use Rattle.std.proofs.lemmas.Simd.{zip2_splat, zip2_splat_left, tops_compared, bitmask_splat, mask_l-mod, trailing_mask_l, map-map, run_in_chunk_fails, run_in_chunk_stops}
use Rattle.std.specs.Simd.Lanes.{zip2, mask_l, top}
use Rattle.std.specs.Int.Count.{count_trailing_zeros, trailing_of_zero}
use Rattle.std.specs.List.{list_all, prefix_len}
use Rattle.std.specs.Char.{is_ascii_digit}
use Rattle.memchr.specs.Find.{NoneBefore, Passes, is_byte}
use Rattle.sp_text.specs.Lines.{value_after, value}
use Rattle.sp_text.specs.Numeral.{AreDigits, IsFront, starts_number, others}
use Rattle.sp_text.proofs.Digits.{and_parts}

-- what a byte counts as a digit, modulo 256
abbrev pub lane : ℕ → ℕ
lane b = (b + 208) % 256

abbrev pub is_other : ℕ → Bool
is_other b = ltb 9 (lane b)

other_is : (b : ℕ) → b < 256 → not (is_other b) ≡ is_ascii_digit b
other_is b small = grind (arith, nat_tests)

-- How many of eight bytes are digits, up to the first that is none.
abbrev pub counted : List ℕ → ℕ
counted text = count_trailing_zeros 64 (mask_l (map (top 7) (zip2 (λ a b. cond (ltb a b) 255 0) (replicate 8 9) (zip2 (λ a b. (a + (2 ^ 8 - b)) % 2 ^ 8) text (replicate 8 48)))) % 2 ^ 64)

mask_is : (text : List ℕ) → length text ≡ 8 → mask_l (map (top 7) (zip2 (λ a b. cond (ltb a b) 255 0) (replicate 8 9) (zip2 (λ a b. (a + (2 ^ 8 - b)) % 2 ^ 8) text (replicate 8 48)))) % 2 ^ 64 ≡ mask_l (map is_other text)
mask_is text long =
    ap (λ (lanes : List ℕ). mask_l (map (top 7) (zip2 (λ a b. cond (ltb a b) 255 0) (replicate 8 9) lanes)) % 2 ^ 64) (zip2_splat (λ (a b : ℕ). (a + (2 ^ 8 - b)) % 2 ^ 8) text 8 48 long)
    ∙ (ap (λ (ms : List Bool). mask_l ms % 2 ^ 64) (tops_compared w8 ltb (replicate 8 9) (map lane text) ∙ (zip2_splat_left ltb 9 8 (map lane text) (length-map text lane ∙ long) ∙ map-map (ltb 9) lane text))
    ∙ mask_l-mod (map is_other text) 64 (omega (arith, length-map text is_other)))

some_mask : (m : ℕ) → count_trailing_zeros 64 m < 64 → 0 < m
some_mask zero few = absurd (omega (arith, trailing_of_zero 64))
some_mask (suc m) few = omega arith

digits_prefix : (text : List ℕ) → ((i : ℕ) → get_or text i 0 < 256) → prefix_len (λ b. not (is_other b)) text ≡ prefix_len is_ascii_digit text
digits_prefix [] small = refl
digits_prefix (b ∷ text) small = rw (other_is b (small 0), digits_prefix text (λ i. small (suc i))) refl

counted_is : (text : List ℕ) → length text ≡ 8 → ((i : ℕ) → get_or text i 0 < 256) → counted text ≤ 7 → counted text ≡ prefix_len is_ascii_digit text
counted_is text long small few =
    let is = mask_is text long in
    let some = some_mask (mask_l (map is_other text)) (rw (← is) (omega arith)) in
    ap (count_trailing_zeros 64) is ∙ (trailing_mask_l is_other 64 text (omega arith) some ∙ digits_prefix text small)

-- An ASCII digit, by its number.
abbrev pub IsAscii : ℕ → Type 0
IsAscii b = (48 ≤ b) × (b ≤ 57)

pub digit_ascii : (b : ℕ) → is_ascii_digit b ≡ true → IsAscii b
digit_ascii b digit = (grind (arith, nat_tests), grind (arith, nat_tests))

all_front : (text : List ℕ) (k : ℕ) → ((i : ℕ) → i < k → is_ascii_digit (get_or text i 0) ≡ true) → list_all is_ascii_digit (take k text) ≡ true
all_front text zero digits = refl
all_front [] (suc k) digits = refl
all_front (b ∷ text) (suc k) digits = let first : is_ascii_digit b ≡ true = digits 0 (omega arith) in rw (first, all_front text k (λ i below. digits (suc i) (omega arith))) refl

pub take_front : (text : List ℕ) (k n : ℕ) → k ≤ n → take k (take n text) ≡ take k text
take_front text zero n few = refl
take_front [] (suc k) zero few = refl
take_front [] (suc k) (suc n) few = refl
take_front (b ∷ text) (suc k) zero few = absurd (omega arith)
take_front (b ∷ text) (suc k) (suc n) few = ap (λ (front : List ℕ). b ∷ front) (take_front text k n (omega arith))

below_take : (text : List ℕ) (n i : ℕ) → ((k : ℕ) → get_or text k 0 < 256) → get_or (take n text) i 0 < 256
below_take text zero i small = omega arith
below_take [] (suc n) i small = omega arith
below_take (b ∷ text) (suc n) zero small = small 0
below_take (b ∷ text) (suc n) (suc i) small = below_take text n i (λ k. small (suc k))

-- The digits that eight bytes begin with.
pub counted_digits : (text : List ℕ) (end : ℕ) → 8 ≤ length text → ((i : ℕ) → Fits w8 (get_or text i 0)) → end ≡ counted (take 8 text) → end ≤ 7
    → (list_all is_ascii_digit (take end text) ≡ true) × (is_ascii_digit (get_or text end 0) ≡ false)
counted_digits text end long bytes end_is few =
    let eight : length (take 8 text) ≡ 8 = length-take-le 8 text long in
    let small : (i : ℕ) → get_or (take 8 text) i 0 < 256 = λ i. below_take text 8 i (λ k. (bytes k).fits) in
    let prefix = end_is ∙ counted_is (take 8 text) eight small (rw end_is at few) in
    let digits : (i : ℕ) → i < end → is_ascii_digit (get_or (take 8 text) i 0) ≡ true = λ i below. prefix_len_passes is_ascii_digit (take 8 text) i 0 (rw prefix at below) in (
      rw (← take_front text end 8 (omega arith)) (all_front (take 8 text) end digits),
      rw (← get_or-take 8 text end 0 (omega arith), prefix) (prefix_len_stops is_ascii_digit (take 8 text) 0 (omega (arith, prefix, eight))),
    )

pub packed_digits : (text : List ℕ) (n end : ℕ) → 8 ≤ length text → n < 2 ^ 64 → n ≡ value (take end text) → (list_all is_ascii_digit (take end text) ≡ true) × (is_ascii_digit (get_or text end 0) ≡ false) → end ≢ 0 → end ≤ 7 → AreDigits text n end
packed_digits text n end long small is digits other few =
    record { small = small; some = omega arith; within = omega arith; digits = digits.0; number = is; behind = λ _. digits.1 }

pub digit_at : (text : List ℕ) (k i : ℕ) → list_all is_ascii_digit (take k text) ≡ true → i < k → i < length text → is_ascii_digit (get_or text i 0) ≡ true
digit_at [] k i all below within = absurd (omega arith)
digit_at (b ∷ text) zero i all below within = absurd (omega arith)
digit_at (b ∷ text) (suc k) zero all below within = (and_parts (is_ascii_digit b) (list_all is_ascii_digit (take k text)) all).0
digit_at (b ∷ text) (suc k) (suc i) all below within = digit_at text k i (and_parts (is_ascii_digit b) (list_all is_ascii_digit (take k text)) all).1 (omega arith) (omega arith)

-- The bits of 32 bytes that are no digits.

not_not : (b : Bool) → not (not b) ≡ b
not_not true = refl
not_not false = refl

map_others : (text : List ℕ) → ((i : ℕ) → get_or text i 0 < 256) → map is_other text ≡ map (λ b. not (is_ascii_digit b)) text
map_others [] small = refl
map_others (b ∷ text) small = rw (← other_is b (small 0), map_others text (λ i. small (suc i)), not_not (is_other b)) refl

pub others_are : (text : List ℕ) → 32 ≤ length text → ((i : ℕ) → Fits w8 (get_or text i 0))
    → mask_l (map (top 7) (zip2 (λ a b. cond (ltb a b) 255 0) (replicate 32 9) (zip2 (λ a b. (a + (2 ^ 8 - b)) % 2 ^ 8) (take 32 text) (replicate 32 48)))) % 2 ^ 64 ≡ others (take 32 text)
others_are text long bytes =
    let all : length (take 32 text) ≡ 32 = length-take-le 32 text long in
    ap (λ (lanes : List ℕ). mask_l (map (top 7) (zip2 (λ a b. cond (ltb a b) 255 0) (replicate 32 9) lanes)) % 2 ^ 64) (zip2_splat (λ (a b : ℕ). (a + (2 ^ 8 - b)) % 2 ^ 8) (take 32 text) 32 48 all)
    ∙ (ap (λ (ms : List Bool). mask_l ms % 2 ^ 64) (tops_compared w8 ltb (replicate 32 9) (map lane (take 32 text)) ∙ (zip2_splat_left ltb 9 32 (map lane (take 32 text)) (length-map (take 32 text) lane ∙ all) ∙ map-map (ltb 9) lane (take 32 text)))
    ∙ (mask_l-mod (map is_other (take 32 text)) 64 (omega (arith, length-map (take 32 text) is_other)) ∙ ap mask_l (map_others (take 32 text) (λ i. below_take text 32 i (λ k. (bytes k).fits)))))

half : (m : Bool) (ms : List Bool) → mask_l (m ∷ ms) / 2 ≡ mask_l ms
half true ms = omega arith
half false ms = omega arith

mask_drop : (ms : List Bool) (k : ℕ) → mask_l ms / 2 ^ k ≡ mask_l (drop k ms)
mask_drop ms zero = div-one (mask_l ms)
mask_drop [] (suc k) = zero-div (2 ^ suc k)
mask_drop (m ∷ ms) (suc k) =
    let more : suc k ≡ 1 + k = omega arith in
    ap (λ (n : ℕ). mask_l (m ∷ ms) / 2 ^ n) more ∙ (sym (shr-shr (mask_l (m ∷ ms)) 1 k) ∙ (ap (λ (n : ℕ). n / 2 ^ k) (half m ms) ∙ mask_drop ms k))

map_drop : (text : List ℕ) (k : ℕ) → drop k (map (λ b. not (is_ascii_digit b)) text) ≡ map (λ b. not (is_ascii_digit b)) (drop k text)
map_drop text zero = refl
map_drop [] (suc k) = refl
map_drop (b ∷ text) (suc k) = map_drop text k

not_others : (text : List ℕ) → prefix_len (λ b. not (not (is_ascii_digit b))) text ≡ prefix_len is_ascii_digit text
not_others [] = refl
not_others (b ∷ text) = rw (not_not (is_ascii_digit b), not_others text) refl

stops_by : (b : Bool) (n k m : ℕ) → 0 < cond b 1 0 + 2 * n → (0 < n → k < m) → cond (not b) (1 + k) 0 < suc m
stops_by true n k m some stops = omega arith
stops_by false n k m some stops = omega (arith, stops (omega arith))

-- Where a bit is set, the bytes before it are not all.
some_stops : (p : ℕ → Bool) (xs : List ℕ) → 0 < mask_l (map p xs) → prefix_len (λ x. not (p x)) xs < length xs
some_stops p [] some = absurd (omega arith)
some_stops p (x ∷ xs) some = stops_by (p x) (mask_l (map p xs)) (prefix_len (λ y. not (p y)) xs) (length xs) some (some_stops p xs)

-- Shifted, the bits tell how many digits stand behind so many bytes.
others_count : (text : List ℕ) (place end : ℕ) → length text ≤ 64 → end ≡ count_trailing_zeros 64 (others text / 2 ^ place) → end < 64 → (end ≡ prefix_len is_ascii_digit (drop place text)) × (end < length (drop place text))
others_count text place end few is below =
    let p : ℕ → Bool = λ b. not (is_ascii_digit b) in
    let shifted : others text / 2 ^ place ≡ mask_l (map p (drop place text)) = mask_drop (map p text) place ∙ ap mask_l (map_drop text place) in
    let counted = is ∙ ap (count_trailing_zeros 64) shifted in
    let some = some_mask (mask_l (map p (drop place text))) (rw (← counted) (omega arith)) in
    let prefix = counted ∙ trailing_mask_l p 64 (drop place text) (omega (arith, length-drop place text)) some in
    (prefix ∙ not_others (drop place text), omega (arith, some_stops p (drop place text) some, prefix))

window_at : (text : List ℕ) (place i : ℕ) → place + i < 32 → get_or (drop place (take 32 text)) i 0 ≡ get_or (drop place text) i 0
window_at text place i below = get_or-drop place (take 32 text) i 0 ∙ (get_or-take 32 text (place + i) 0 below ∙ sym (get_or-drop place text i 0))

-- The digits behind so many bytes.
pub others_digits : (text : List ℕ) (place end : ℕ) → 32 ≤ length text → end ≡ count_trailing_zeros 64 (others (take 32 text) / 2 ^ place) → end ≤ 8
    → (place + end < 32) × (list_all is_ascii_digit (take end (drop place text)) ≡ true) × (is_ascii_digit (get_or (drop place text) end 0) ≡ false)
others_digits text place end long is few =
    let all : length (take 32 text) ≡ 32 = length-take-le 32 text long in
    let window = drop place (take 32 text) in
    let counted = others_count (take 32 text) place end (omega arith) is (omega arith) in
    let fits : place + end < 32 = omega (arith, counted.1, length-drop place (take 32 text), all) in (
      fits,
      all_front (drop place text) end (λ i below. rw (← window_at text place i (omega arith)) (prefix_len_passes is_ascii_digit window i 0 (omega (arith, counted.0)))),
      rw (← window_at text place end fits, counted.0) (prefix_len_stops is_ascii_digit window 0 (omega (arith, counted.0, counted.1))),
    )

starts_other : (digits : List ℕ) (end : ℕ) → 0 < end → 0 < length digits → get_or digits 0 0 ≢ 48 → starts_number (take end digits) ≡ true
starts_other [] end some long other = absurd (omega arith)
starts_other (d ∷ digits) zero some long other = absurd (omega arith)
starts_other (d ∷ []) (suc zero) some long other = refl
starts_other (d ∷ e ∷ digits) (suc zero) some long other = refl
starts_other (d ∷ []) (suc (suc end)) some long other = refl
starts_other (d ∷ e ∷ digits) (suc (suc end)) some long other = rw (ne_eqb d 48 other) refl

-- The number that they spell.
pub number_front : (text : List ℕ) (place n end : ℕ) → 40 ≤ length text → end ≡ count_trailing_zeros 64 (others (take 32 text) / 2 ^ place) → end ≢ 0 → end ≤ 8 → get_or text place 0 ≢ 48 → n < 2 ^ 64 → n ≡ value (take end (drop place text))
    → IsFront (drop place text) n end
number_front text place n end long is other few lead small number =
    let found = others_digits text place end (omega arith) is few in
    let rest : length (drop place text) ≡ length text - place = length-drop place text in
    record {
      small = small;
      within = omega (arith, found.0, rest);
      digits = found.1;
      number = number;
      behind = λ _. found.2;
      starts = starts_other (drop place text) end (omega arith) (omega (arith, found.0, rest)) (λ zero_is. lead (sym (ap (λ k. get_or text k 0) (add-zero place)) ∙ (sym (get_or-drop place text 0 0) ∙ zero_is)));
    }

value_after_some : (n : ℕ) (ds : List ℕ) → 0 < n → 0 < value_after n ds
value_after_some n [] some = some
value_after_some n (d ∷ ds) some = value_after_some (10 * n + (d - 48)) ds (omega arith)

digit_some : (b : ℕ) → is_ascii_digit b ≡ true → b ≢ 48 → 0 < 10 * 0 + (b - 48)
digit_some b digit other = omega (arith, (digit_ascii b digit).0, other)

-- Digits that don't begin with a zero spell no zero.
value_some : (digits : List ℕ) (end : ℕ) → 0 < end → 0 < length digits → list_all is_ascii_digit (take end digits) ≡ true → get_or digits 0 0 ≢ 48 → 0 < value (take end digits)
value_some [] end some long all other = absurd (omega arith)
value_some (d ∷ digits) zero some long all other = absurd (omega arith)
value_some (d ∷ digits) (suc end) some long all other = value_after_some (10 * 0 + (d - 48)) (take end digits) (digit_some d (and_parts (is_ascii_digit d) (list_all is_ascii_digit (take end digits)) all).0 other)

-- The number that they spell isn't 0.
pub number_some : (text : List ℕ) (place n end : ℕ) → 40 ≤ length text → end ≡ count_trailing_zeros 64 (others (take 32 text) / 2 ^ place) → end ≢ 0 → end ≤ 8 → get_or text place 0 ≢ 48 → n ≡ value (take end (drop place text)) → 0 < n
number_some text place n end long is other few lead number =
    let found = others_digits text place end (omega arith) is few in
    let rest : length (drop place text) ≡ length text - place = length-drop place text in
    rw number (value_some (drop place text) end (omega arith) (omega (arith, found.0, rest)) found.1 (λ zero_is. lead (sym (ap (λ k. get_or text k 0) (add-zero place)) ∙ (sym (get_or-drop place text 0 0) ∙ zero_is))))

-- Where the first LF stands among 32 bytes.
abbrev pub found_lf : List ℕ → ℕ
found_lf text = count_trailing_zeros 64 (mask_l (map (top 7) (zip2 (λ a b. cond (eqb a b) 255 0) text (replicate 32 10))) % 2 ^ 64)

pub first_lf_is : (bytes : List ℕ) (k : ℕ) → 32 ≤ length bytes → k ≡ found_lf (take 32 bytes) → k < 32 → NoneBefore (Passes (is_byte 10) bytes) 0 (length bytes) k × Passes (is_byte 10) bytes k
first_lf_is bytes k long is few =
    let p : ℕ → Bool = λ b. eqb b 10 in
    let front : length (take 32 bytes) ≡ 32 = length-take-le 32 bytes long in
    let mask = is ∙ ap (count_trailing_zeros 64) (bitmask_splat w8 eqb (take 32 bytes) 32 10 front (omega arith)) in
    let some = some_mask (mask_l (map p (take 32 bytes))) (rw (← mask) (omega arith)) in
    let counted = mask ∙ trailing_mask_l p 64 (take 32 bytes) (omega arith) some in (
      record {
        low = omega arith;
        high = omega arith;
        before = λ j low below found. false≢true (sym (run_in_chunk_fails p bytes 0 32 k 0 long counted j low (omega arith)) ∙ found);
      },
      rw (zero-add k) at (run_in_chunk_stops p bytes 0 32 k 0 long counted few),
    )
