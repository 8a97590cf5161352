-- Numbers in the usual spelling at the front of a text that goes on.
use Rattle.std.proofs.Common.{◌≡◌, ℕ, zero, suc, ◌+◌, ◌-◌, ◌<◌, ◌≤◌, true, false, List, [], ◌∷◌, ◌++◌, length, take, drop, get_or, refl, ap, ◌∙◌, add-zero, arith}
use Rattle.std.proofs.Math.Seq.{take-add, drop-drop}
use Rattle.std.proofs.lemmas.Bool.{ne_eqb, le-leb}
use Rattle.std.proofs.lemmas.Bool.Decides.{nat_tests}
use Rattle.std.proofs.lemmas.List.{get_or-take, get_or-drop, length-take, length-drop, drop-take}
use Rattle.std.specs.List.{list_all, AllByRecursion}
use Rattle.std.specs.Char.{is_ascii_digit}
use Rattle.sp_text.specs.declared.formats.Ranges.{Ranges}
use Rattle.sp_text.specs.declared.formats.Field.{Field}
use Rattle.sp_text.specs.declared.numbers.Numeral.TheVariants as numerals
use Rattle.sp_text.specs.Lines.{without_cr}
use Rattle.sp_text.specs.Numeral.{IsFront, numeral_within}
use Rattle.sp_text.specs.Text.{top}
use Rattle.sp_text.specs.Matching.{AreSpaced}
use Rattle.sp_text.specs.Meaning.{HasNoLf}
use Rattle.sp_text.proofs.Digits.{and_parts}
use Rattle.sp_text.proofs.Lanes.{take_front}
use Rattle.sp_text.proofs.UsualLines.{spaced_more}

-- A number at the front is there in each part of the text that has it.

behind_taken : (text : List ℕ) (end k : ℕ) → end ≤ length text → (end < length text → is_ascii_digit (get_or text end 0) ≡ false) → end < length (take (end + k) text) → is_ascii_digit (get_or (take (end + k) text) end 0) ≡ false
behind_taken text end zero within behind more = absurd (omega (arith, length-take (end + 0) text))
behind_taken text end (suc k) within behind more = rw (get_or-take (end + suc k) text end 0 (omega arith)) (behind (omega (arith, length-take (end + suc k) text)))

front_taken : (text : List ℕ) (n end k : ℕ) → IsFront text n end → IsFront (take (end + k) text) n end
front_taken text n end k front =
    let same : take end (take (end + k) text) ≡ take end text = take_front text end (end + k) (omega arith) in
    record {
      small = front.small;
      within = omega (arith, front.within, length-take (end + k) text);
      digits = rw same front.digits;
      number = rw same front.number;
      behind = behind_taken text end k front.within front.behind;
      starts = rw same front.starts;
    }

spaced_taken : (ranges : Ranges) (ps : List ℕ) (fields : List Field) (i : ℕ) (d : Field) (text ns : List ℕ) (n m end k most : ℕ) → i < length fields → 1 ≤ length text → get_or text 0 0 ≡ 32 → IsFront (drop 1 text) m end
    → most ≡ top ranges ps (get_or fields i d).most → numerals.Value n ≡ numeral_within m (get_or fields i d).least most
    → AreSpaced ranges ps (drop (i + 1) fields) (take k (drop end (drop 1 text))) ns → AreSpaced ranges ps (drop i fields) (take (suc (end + k)) text) (n ∷ ns)
spaced_taken ranges ps fields i d [] ns n m end k most below some space front most_is found others = absurd (omega arith)
spaced_taken ranges ps fields i d (b ∷ text) ns n m end k most below some space front most_is found others =
    spaced_more ranges ps fields i d (b ∷ take (end + k) text) ns n m end most below (omega arith) space (front_taken text m end k front) most_is found (rw (drop-take end k text) others)

-- One number more, behind so many bytes.
pub spaced_on : (ranges : Ranges) (ps : List ℕ) (fields : List Field) (i : ℕ) (d : Field) (text ns : List ℕ) (n m end count k most : ℕ) → i < length fields → end < length text → get_or text end 0 ≡ 32 → IsFront (drop (end + 1) text) m count
    → most ≡ top ranges ps (get_or fields i d).most → numerals.Value n ≡ numeral_within m (get_or fields i d).least most
    → AreSpaced ranges ps (drop (i + 1) fields) (take k (drop (end + (1 + count)) text)) ns → AreSpaced ranges ps (drop i fields) (take (suc (count + k)) (drop end text)) (n ∷ ns)
spaced_on ranges ps fields i d text ns n m end count k most below within space front most_is found others =
    let one : drop 1 (drop end text) ≡ drop (end + 1) text = drop-drop 1 end text in
    let both : drop count (drop 1 (drop end text)) ≡ drop (end + (1 + count)) text = ap (drop count) one ∙ (drop-drop count (end + 1) text ∙ ap (λ (j : ℕ). drop j text) (omega arith)) in
    spaced_taken ranges ps fields i d (drop end text) ns n m count k most below (omega (arith, length-drop end text)) (get_or-drop end text 0 0 ∙ (ap (λ (j : ℕ). get_or text j 0) (add-zero end) ∙ space)) (rw one front) most_is found (rw both others)

pub whole_on : (text : List ℕ) (end count k : ℕ) → take (end + (1 + count) + k) text ≡ take (end + suc (count + k)) text
whole_on text end count k = ap (λ (j : ℕ). take j text) (omega arith)

-- A number in its range, where the least is 1 or 0.
pub in_range : (n least most : ℕ) → least ≤ 1 → 0 < n → n ≤ most → numerals.Value n ≡ numeral_within n least most
in_range n least most low some high = rw (le-leb least n (omega arith), le-leb n most high) refl

-- Behind the first byte.
pub front_behind : (text : List ℕ) (n end count : ℕ) → IsFront (drop end (drop 1 text)) n count → IsFront (drop (end + 1) text) n count
front_behind text n end count front =
    let same : drop end (drop 1 text) ≡ drop (end + 1) text = drop-drop end 1 text ∙ ap (λ (j : ℕ). drop j text) (omega arith) in
    rw same at front

-- Bytes that are no control characters.

all_both : (a b : List ℕ) → AllByRecursion (λ x. 32 ≤ x) a → AllByRecursion (λ x. 32 ≤ x) b → AllByRecursion (λ x. 32 ≤ x) (a ++ b)
all_both [] b first second = second
all_both (x ∷ a) b first second = (first.0, all_both a b first.1 second)

digit_plain : (b : ℕ) → is_ascii_digit b ≡ true → 32 ≤ b
digit_plain b digit = grind (arith, nat_tests)

digits_plain : (digits : List ℕ) → list_all is_ascii_digit digits ≡ true → AllByRecursion (λ x. 32 ≤ x) digits
digits_plain [] all = tt
digits_plain (b ∷ digits) all =
    let parts = and_parts (is_ascii_digit b) (list_all is_ascii_digit digits) all in
    (digit_plain b parts.0, digits_plain digits parts.1)

front_plain : (text : List ℕ) (count : ℕ) → 1 ≤ length text → get_or text 0 0 ≡ 32 → list_all is_ascii_digit (take count (drop 1 text)) ≡ true → AllByRecursion (λ x. 32 ≤ x) (take (suc count) text)
front_plain [] count some space digits = absurd (omega arith)
front_plain (b ∷ text) count some space digits = (omega (arith, space), digits_plain (take count text) digits)

pub plain_on : (text : List ℕ) (end count : ℕ) → end < length text → get_or text end 0 ≡ 32 → list_all is_ascii_digit (take count (drop (end + 1) text)) ≡ true → AllByRecursion (λ x. 32 ≤ x) (take end text)
    → AllByRecursion (λ x. 32 ≤ x) (take (end + (1 + count)) text)
plain_on text end count within space digits before =
    let one : drop 1 (drop end text) ≡ drop (end + 1) text = drop-drop 1 end text in
    let more = front_plain (drop end text) count (omega (arith, length-drop end text)) (get_or-drop end text 0 0 ∙ (ap (λ (j : ℕ). get_or text j 0) (add-zero end) ∙ space)) (rw one digits) in
    let whole : take (end + (1 + count)) text ≡ take end text ++ take (suc count) (drop end text) = ap (λ (j : ℕ). take j text) (omega arith) ∙ take-add end (suc count) text in
    rw whole (all_both (take end text) (take (suc count) (drop end text)) before more)

pub no_lf : (bytes : List ℕ) → AllByRecursion (λ x. 32 ≤ x) bytes → HasNoLf bytes
no_lf [] plain = tt
no_lf (b ∷ bytes) plain = (λ (is : b ≡ 10). absurd (omega (arith, plain.0, is)), no_lf bytes plain.1)

plain_at : (bytes : List ℕ) (i : ℕ) → AllByRecursion (λ x. 32 ≤ x) bytes → i < length bytes → 32 ≤ get_or bytes i 0
plain_at [] i plain within = absurd (omega arith)
plain_at (b ∷ bytes) zero plain within = plain.0
plain_at (b ∷ bytes) (suc i) plain within = plain_at bytes i plain.1 (omega arith)

pub no_cr : (line : List ℕ) → AllByRecursion (λ x. 32 ≤ x) line → 0 < length line → without_cr line ≡ line
no_cr line plain some = rw (ne_eqb (get_or line (length line - 1) 0) 13 (λ (is : get_or line (length line - 1) 0 ≡ 13). absurd (omega (arith, is, plain_at line (length line - 1) plain (omega arith))))) refl
