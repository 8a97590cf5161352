-- A line at its first space.
use Rattle.std.proofs.Common.{◌≡◌, ◌≢◌, ℕ, zero, suc, ◌<◌, ◌≤◌, Bool, true, false, List, [], ◌∷◌, ◌++◌, length, take, drop, get_or, eqb, Some, None, refl, sym, ap, subst, ◌∙◌, eq-eqb, ne_eqb, length-drop, arith}
use Rattle.std.proofs.lemmas.List.{take_all, take-append-drop, drop_at, length-take-le, append-nil}
use Rattle.std.proofs.lemmas.List.Splits.{slice_split-cons_yes, slice_split-cons_no, slice_split_at, slice_split_none, join_with_byte-slice_split, length-slice_split}
use Rattle.std.proofs.lemmas.List.Sums.{take_while-cons}
use Rattle.std.specs.List.{onto_first, list_all, join_with_byte}
use Rattle.std.specs.Char.{is_ascii_digit}
use Rattle.sp_text.specs.Lines.{is_number}
use Rattle.sp_text.specs.Numeral.{starts_number, leading_digits, Leads}
use Rattle.sp_text.proofs.Digits.{and_parts, is_number_parts}
use Rattle.sp_files.specs.Fields.{fields, number_in, HasNoNext}
use Rattle.sp_files.proofs.Numerals.{digits_no_space}

pub first_part : (n : ℕ) (text : List ℕ) → n < length text → ((k : ℕ) → k < n → get_or text k 0 ≢ 32) → get_or text n 0 ≡ 32 → fields text ≡ take n text ∷ fields (drop 1 (drop n text))
first_part n [] within others space = absurd (omega arith)
first_part zero (b ∷ text) within others space = slice_split-cons_yes (λ x. eqb x 32) b text (eq-eqb b 32 space)
first_part (suc n) (b ∷ text) within others space =
    slice_split-cons_no (λ x. eqb x 32) b text (ne_eqb b 32 (others 0 (omega arith)))
    ∙ ap (onto_first b) (first_part n text (omega arith) (λ k h. others (suc k) (omega arith)) space)

pub one_part : (text : List ℕ) → ((k : ℕ) → k < length text → get_or text k 0 ≢ 32) → fields text ≡ text ∷ []
one_part [] others = refl
one_part (b ∷ text) others =
    slice_split-cons_no (λ x. eqb x 32) b text (ne_eqb b 32 (others 0 (omega arith)))
    ∙ ap (onto_first b) (one_part text (λ k h. others (suc k) (omega arith)))

-- A field that is a number is the digits at the front.

digits_of : (field : List ℕ) → is_number field ≡ true → list_all is_ascii_digit field ≡ true
digits_of field h = (and_parts (starts_number field) (list_all is_ascii_digit field) (sym (is_number_parts field) ∙ h)).1

leading_before : (field : List ℕ) (rest : List ℕ) → list_all is_ascii_digit field ≡ true → leading_digits (field ++ 32 ∷ rest) ≡ field
leading_before [] rest digits = take_while-cons is_ascii_digit 32 rest
leading_before (d ∷ field) rest digits =
    let parts = and_parts (is_ascii_digit d) (list_all is_ascii_digit field) digits in
    take_while-cons is_ascii_digit d (field ++ 32 ∷ rest) ∙ rw (parts.0, leading_before field rest parts.1) refl

leading_all : (field : List ℕ) → list_all is_ascii_digit field ≡ true → leading_digits field ≡ field
leading_all [] digits = refl
leading_all (d ∷ field) digits =
    let parts = and_parts (is_ascii_digit d) (list_all is_ascii_digit field) digits in
    take_while-cons is_ascii_digit d field ∙ rw (parts.0, leading_all field parts.1) refl

no_number : (field : List ℕ) → (is_number field ≡ true → ⊥) → (b : Bool) → is_number field ≡ b → number_in field ≡ None
no_number field not_so true is = absurd (not_so is)
no_number field not_so false is = rw is refl

-- A field ends before these bytes.
abbrev pub EndsField : List ℕ → Type 0
EndsField [] = Unit {0}
EndsField (b ∷ bytes) = b ≡ 32

by_parts : (text : List ℕ) (parts : List (List ℕ)) → fields text ≡ parts → ((rest : List ℕ) → text ≡ leading_digits text ++ rest → EndsField rest → is_number (leading_digits text) ≡ true → ⊥) → HasNoNext parts
by_parts text [] is not_so = tt
by_parts text (field ∷ []) is not_so = no_number field (λ number.
    let whole : text ≡ field = sym (join_with_byte-slice_split 32 text) ∙ ap (join_with_byte 32) is in
    let same : leading_digits text ≡ field = ap leading_digits whole ∙ leading_all field (digits_of field number) in
    not_so [] (rw (same, append-nil field) whole) tt (rw same number)) (is_number field) refl
by_parts text (field ∷ next ∷ more) is not_so = no_number field (λ number.
    let rest : List ℕ = join_with_byte 32 (next ∷ more) in
    let whole : text ≡ field ++ 32 ∷ rest = sym (join_with_byte-slice_split 32 text) ∙ ap (join_with_byte 32) is in
    let same : leading_digits text ≡ field = ap leading_digits whole ∙ leading_before field rest (digits_of field number) in
    not_so (32 ∷ rest) (rw same whole) refl (rw same number)) (is_number field) refl

-- The first field is no number, if there are no digits at the front that spell one and end it.
pub no_next : (text : List ℕ) → ((rest : List ℕ) → text ≡ leading_digits text ++ rest → EndsField rest → is_number (leading_digits text) ≡ true → ⊥) → HasNoNext (fields text)
no_next text not_so = by_parts text (fields text) refl not_so

-- Behind the digits stands another byte than a space.
pub no_space : (text : List ℕ) (n end : ℕ) → Leads text n end → (EndsField (drop end text) → ⊥) → HasNoNext (fields text)
no_space text n end leads not_so = no_next text (λ rest parts ends number.
    let long : length (leading_digits text) ≡ end = ap length leads.digits ∙ length-take-le end text leads.within in
    let is : drop end text ≡ rest = ap (drop end) parts ∙ drop_at (leading_digits text) rest end long in
    not_so (rw is ends))

pub other_byte : (xs : List ℕ) → 1 ≤ length xs → get_or xs 0 0 ≢ 32 → EndsField xs → ⊥
other_byte [] some other ends = absurd (omega arith)
other_byte (x ∷ xs) some other ends = other ends

pub begins_so : (xs : List ℕ) → 1 ≤ length xs → get_or xs 0 0 ≡ 32 → xs ≡ 32 ∷ drop 1 xs
begins_so [] some first = absurd (omega arith)
begins_so (x ∷ xs) some first = rw first refl

some_field : (text : List ℕ) (parts : List (List ℕ)) → fields text ≡ parts → (field : List ℕ) × (more : List (List ℕ)) × (fields text ≡ field ∷ more)
some_field text [] is = absurd (omega (arith, length-slice_split (λ b. eqb b 32) text, ap length is))
some_field text (field ∷ more) is = (field, more, is)

-- Behind the digits stands a space, and then these bytes.
pub next_is : (text rest : List ℕ) (n end : ℕ) → Leads text n end → drop end text ≡ 32 ∷ rest
    → (field next : List ℕ) × (more : List (List ℕ)) × (fields text ≡ field ∷ next ∷ more) × (fields rest ≡ next ∷ more) × (number_in field ≡ Some n)
next_is text rest n end leads behind =
    let digits = digits_of (leading_digits text) leads.spelled in
    let parts : text ≡ leading_digits text ++ 32 ∷ rest = sym (take-append-drop end text) ∙ rw (behind, leads.digits) refl in
    let all : fields text ≡ leading_digits text ∷ fields rest =
    subst (λ (t : List ℕ). fields t ≡ leading_digits text ∷ fields rest) (sym parts) (slice_split_at (λ b. eqb b 32) (leading_digits text) 32 rest (digits_no_space (leading_digits text) digits) refl) in
    let next = some_field rest (fields rest) refl in
    (leading_digits text, next.0, next.1, all ∙ ap (λ (t : List (List ℕ)). leading_digits text ∷ t) next.2, next.2, rw (leads.spelled, leads.number) refl)

-- Behind the digits stands nothing.
pub last_is : (text : List ℕ) (n end : ℕ) → Leads text n end → length (drop end text) < 1 → (field : List ℕ) × (fields text ≡ field ∷ []) × (number_in field ≡ Some n)
last_is text n end leads none =
    let same : leading_digits text ≡ text = leads.digits ∙ take_all end text (omega (arith, length-drop end text, none)) in
    let digits = rw same at (digits_of (leading_digits text) leads.spelled) in
    (text, slice_split_none (λ b. eqb b 32) text (digits_no_space text digits), rw (rw same at leads.spelled, rw same at leads.number) refl)
