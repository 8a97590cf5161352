-- Fields, run by run.
use Rattle.std.proofs.Common.{◌≡◌, ℕ, zero, suc, ◌<◌, ◌≤◌, Bool, true, false, cond, None, List, [], ◌∷◌, ◌++◌, length, take, drop, get_or, refl, sym, ap, ◌∙◌, append_assoc, add-zero, arith}
use Rattle.std.proofs.lemmas.List.{append-nil, nil_from_length, get_or-drop, length-drop, length-take-le}
use Rattle.std.proofs.lemmas.Bool.{ne_eqb, false≢true}
use Rattle.sp_text.specs.declared.formats.Field.{Field}
use Rattle.sp_text.specs.Lines.{is_blank, with_field, fields_from, StartsOtherwise}
use Rattle.sp_text.specs.Text.{is_comment, behind_words}

pub skip_blanks : (n : ℕ) (text : List ℕ) → n ≤ length text → ((k : ℕ) → k < n → is_blank (get_or text k 0) ≡ true) → fields_from [] text ≡ fields_from [] (drop n text)
skip_blanks zero text within blanks = refl
skip_blanks (suc n) [] within blanks = refl
skip_blanks (suc n) (b ∷ text) within blanks = let first : is_blank b ≡ true = blanks 0 (omega arith) in rw first (skip_blanks n text (omega arith) (λ k h. blanks (suc k) (omega arith)))

pub take_field : (n : ℕ) (field text : List ℕ) → n ≤ length text → ((k : ℕ) → k < n → is_blank (get_or text k 0) ≡ false) → fields_from field text ≡ fields_from (field ++ take n text) (drop n text)
take_field zero field text within others = rw (append-nil field) refl
take_field (suc n) field [] within others = absurd (omega arith)
take_field (suc n) field (b ∷ text) within others =
    let first : is_blank b ≡ false = others 0 (omega arith) in
    rw first (take_field n (field ++ b ∷ []) text (omega arith) (λ k h. others (suc k) (omega arith)) ∙ ap (λ (f : List ℕ). fields_from f (drop n text)) (append_assoc field (b ∷ []) (take n text)))

close : (field text : List ℕ) → (0 < length text → is_blank (get_or text 0 0) ≡ true) → fields_from field text ≡ with_field field (fields_from [] text)
close field [] blank = refl
close field (b ∷ text) blank = let first : is_blank b ≡ true = blank (omega arith) in rw first refl

some_field : (field : List ℕ) (fields : List (List ℕ)) → 0 < length field → with_field field fields ≡ field ∷ fields
some_field [] fields some = absurd (omega arith)
some_field (b ∷ field) fields some = refl

pub no_field : (text : List ℕ) (n : ℕ) → n ≤ length text → ((k : ℕ) → k < n → is_blank (get_or text k 0) ≡ true) → length (drop n text) ≡ 0 → fields_from [] text ≡ []
no_field text n within blanks none = skip_blanks n text within blanks ∙ ap (fields_from []) (nil_from_length (drop n text) none)

pub later_field : (r : List ℕ) (m : ℕ) → m ≤ length r → ((k : ℕ) → k < m → is_blank (get_or r k 0) ≡ false) → (m < length r → is_blank (get_or r m 0) ≡ true) → 0 < m
    → fields_from [] r ≡ take m r ∷ fields_from [] (drop m r)
later_field r m within others end some =
    let blank : 0 < length (drop m r) → is_blank (get_or (drop m r) 0 0) ≡ true = λ h. rw (get_or-drop m r 0 0, add-zero m) (end (omega (arith, length-drop m r))) in
    take_field m [] r within others ∙ (close (take m r) (drop m r) blank ∙ some_field (take m r) (fields_from [] (drop m r)) (omega (arith, length-take-le m r within)))

first_is_other : (r : List ℕ) (m : ℕ) → 0 < length r → is_blank (get_or r 0 0) ≡ false → (m < length r → is_blank (get_or r m 0) ≡ true) → 0 < m
first_is_other r zero some other end = absurd (false≢true (sym other ∙ end some))
first_is_other r (suc m) some other end = omega arith

pub one_field : (text : List ℕ) (n m : ℕ) → n ≤ length text → ((k : ℕ) → k < n → is_blank (get_or text k 0) ≡ true) → (n < length text → is_blank (get_or text n 0) ≡ false)
    → m ≤ length (drop n text) → ((k : ℕ) → k < m → is_blank (get_or (drop n text) k 0) ≡ false) → (m < length (drop n text) → is_blank (get_or (drop n text) m 0) ≡ true)
    → 0 < length (drop n text)
    → (fields_from [] text ≡ take m (drop n text) ∷ fields_from [] (drop m (drop n text))) × (length (drop m (drop n text)) < length text)
one_field text n m within blanks other within_2 others end some =
    let first : is_blank (get_or (drop n text) 0 0) ≡ false = rw (get_or-drop n text 0 0, add-zero n) (other (omega (arith, length-drop n text))) in
    let has : 0 < m = first_is_other (drop n text) m some first end in (
      skip_blanks n text within blanks ∙ later_field (drop n text) m within_2 others end has,
      omega (arith, length-drop m (drop n text), length-drop n text),
    )

-- The first field begins with the first byte, if that is no blank.

record Begins (b : ℕ) (fields : List (List ℕ)) : Type 0 where
  more : List ℕ
  later : List (List ℕ)
  is : fields ≡ (b ∷ more) ∷ later

begins_by : (blank : Bool) (b : ℕ) (field : List ℕ) (after longer : List (List ℕ)) → Begins b longer → Begins b (cond blank (with_field (b ∷ field) after) longer)
begins_by true b field after longer h = record { more = field; later = after; is = refl }
begins_by false b field after longer h = h

begins : (b : ℕ) (field bytes : List ℕ) → Begins b (fields_from (b ∷ field) bytes)
begins b field [] = record { more = field; later = []; is = refl }
begins b field (x ∷ bytes) = begins_by (is_blank x) b field (fields_from [] bytes) (fields_from (b ∷ field ++ x ∷ []) bytes) (begins b (field ++ x ∷ []) bytes)

first_begins : (b : ℕ) (bytes : List ℕ) → is_blank b ≡ false → Begins b (fields_from [] (b ∷ bytes))
first_begins b bytes other = rw other (begins b [] bytes)

pub no_remark : (text : List ℕ) → StartsOtherwise text 99 → is_comment (fields_from [] text) ≡ false
no_remark [] h = absurd h
no_remark (b ∷ text) (other, blank) =
    let first = first_begins b text blank in
    rw (first.is, ne_eqb 99 b (λ e. other (sym e))) refl

pub no_words : (words text : List ℕ) (byte : ℕ) (ds : List Field) → StartsOtherwise words 32 → byte ≡ get_or words 0 0 → StartsOtherwise text byte → behind_words (fields_from [] words) ds (fields_from [] text) ≡ None
no_words [] text byte ds h is other = absurd h
no_words (w ∷ words) [] byte ds h is other = absurd other
no_words (w ∷ words) (b ∷ text) byte ds (space, blank) is (other, blank_too) =
    let first = first_begins w words blank in
    let second = first_begins b text blank_too in
    rw (first.is, second.is, ne_eqb w b (λ e. other (sym e ∙ sym is))) refl
