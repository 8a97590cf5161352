-- A line of a file has one spelling.
use Rattle.std.proofs.Common.{⊎_elim, ◌≡◌, ℕ, ◌*◌, ◌^◌, ◌<◌, ◌≤◌, ◌⊎◌, Bool, true, false, cond, ◌&&◌, eqb, List, [], ◌∷◌, ◌++◌, length, map, codes, decimal, Option, Some, None, inl, inr, refl, sym, ap, subst, ◌∙◌, length-append, eqb-true, arith}
use Rattle.std.proofs.lemmas.List.Splits.{slice_split_at, slice_split_none, join_with_byte-slice_split}
use Rattle.std.specs.List.{join_with_byte, AllByRecursion}
use Rattle.sp_text.specs.Lines.{is_number, value}
use Rattle.sp_text.specs.Text.{is_word}
use Rattle.sp_text.specs.Meaning.{HasNoLf}
use Rattle.sp_text.proofs.Digits.{and_parts}
use Rattle.sp_text.proofs.LineCuts.{no_lf_both}
use Rattle.sp_files.specs.declared.lines.RowNumbers.{RowNumbers}
use Rattle.sp_files.specs.declared.lines.Line.{Line}
use Rattle.sp_files.specs.declared.lines.Line.TheVariants.{Problem, Row, End}
use Rattle.sp_files.specs.Fields.{fields}
use Rattle.sp_files.specs.Spelling.{row_of, problem_of, first_of, end_of, line_of, line_in}
use Rattle.sp_files.proofs.Numerals.{decimal_number, number_decimal, value_decimal, decimal_short, decimal_no_space, decimal_no_lf}

-- 1. Numbers, parted by spaces.

abbrev pub AreSmall : List ℕ → Type 0
AreSmall ns = AllByRecursion (λ n. n < 2 ^ 64) ns

abbrev pub AreNumbers : List (List ℕ) → Type 0
AreNumbers parts = AllByRecursion (λ part. is_number part ≡ true) parts

abbrev pub spaced : List ℕ → List ℕ
spaced ns = join_with_byte 32 (map decimal ns)

spaced_fields : (ns : List ℕ) → 1 ≤ length ns → AreSmall ns → fields (spaced ns) ≡ map decimal ns
spaced_fields [] some small = absurd (omega (arith, some))
spaced_fields (n ∷ []) some small = slice_split_none (λ b. eqb b 32) (decimal n) (decimal_no_space n small.0)
spaced_fields (n ∷ m ∷ more) some small =
    slice_split_at (λ b. eqb b 32) (decimal n) 32 (spaced (m ∷ more)) (decimal_no_space n small.0) refl ∙ ap (λ (t : List (List ℕ)). decimal n ∷ t) (spaced_fields (m ∷ more) (omega arith) small.1)

decimals : (parts : List (List ℕ)) → AreNumbers parts → AreSmall (map value parts) → parts ≡ map decimal (map value parts)
decimals [] are small = refl
decimals (part ∷ more) are small =
    ap (λ (first : List ℕ). first ∷ more) (number_decimal part are.0 small.0) ∙ ap (λ (later : List (List ℕ)). decimal (value part) ∷ later) (decimals more are.1 small.1)

spaced_no_lf : (ns : List ℕ) → AreSmall ns → HasNoLf (spaced ns)
spaced_no_lf [] small = tt
spaced_no_lf (n ∷ []) small = decimal_no_lf n small.0
spaced_no_lf (n ∷ m ∷ more) small = no_lf_both (decimal n) (32 ∷ spaced (m ∷ more)) (decimal_no_lf n small.0) (λ e. omega (arith, e), spaced_no_lf (m ∷ more) small.1)

spaced_short : (ns : List ℕ) → AreSmall ns → length (spaced ns) ≤ 21 * length ns
spaced_short [] small = omega arith
spaced_short (n ∷ []) small = omega (arith, decimal_short n small.0)
spaced_short (n ∷ m ∷ more) small = omega (arith, decimal_short n small.0, length-append (decimal n) (32 ∷ spaced (m ∷ more)), spaced_short (m ∷ more) small.1)

-- 2. The bytes of a line, few of them, and none an LF.

abbrev pub root_numbers : Option ℕ → List ℕ
root_numbers None = []
root_numbers (Some root) = root ∷ []

abbrev pub numbers : RowNumbers → List ℕ
numbers row = row.vertex ∷ row.dist ∷ row.pred ∷ root_numbers row.root

-- the word of the first line
abbrev pub word : (near : Bool) → List ℕ
word false = codes "spt"
word true = codes "near"

abbrev pub line_bytes : Line → List ℕ
line_bytes (Problem near n second) = 112 ∷ 32 ∷ (word near ++ 32 ∷ spaced (n ∷ second ∷ []))
line_bytes (Row row) = 118 ∷ 32 ∷ spaced (numbers row)
line_bytes (End count) = 101 ∷ 32 ∷ decimal count

-- All numbers of a line are small.
abbrev pub IsSmall : Line → Type 0
IsSmall (Problem near n second) = AreSmall (n ∷ second ∷ [])
IsSmall (Row row) = AreSmall (numbers row)
IsSmall (End count) = count < 2 ^ 64

pub word_is : (word field : List ℕ) → is_word word field ≡ true → field ≡ word
word_is [] [] h = refl
word_is [] (c ∷ field) h = cc
word_is (b ∷ word) [] h = cc
word_is (b ∷ word) (c ∷ field) h =
    let p = and_parts (eqb b c) (is_word word field) h in
    let same : b ≡ c = eqb-true b c p.0 in
    rw (same, word_is word field p.1) refl

cond_some : {A : Type 0} (b : Bool) (x y : Option A) (found : A) → cond b x y ≡ Some found → ((b ≡ true) × (x ≡ Some found)) ⊎ (y ≡ Some found)
cond_some true x y found h = inl (refl, h)
cond_some false x y found h = inr h

pub cond_some_none : {A : Type 0} (b : Bool) (found value : A) → cond b (Some found) None ≡ Some value → (b ≡ true) × (found ≡ value)
cond_some_none true found value h = (refl, cc)
cond_some_none false found value h = cc

of_word : (letter word : List ℕ) (more : List (List ℕ)) (bytes : List ℕ) → is_word letter word ≡ true → join_with_byte 32 (letter ∷ more) ≡ bytes → join_with_byte 32 (word ∷ more) ≡ bytes
of_word letter word more bytes same told = subst (λ (w : List ℕ). join_with_byte 32 (w ∷ more) ≡ bytes) (sym (word_is letter word same)) told

-- These numbers stand behind a first field.
behind : (first : List ℕ) (parts : List (List ℕ)) (ns : List ℕ) → 1 ≤ length ns → AreNumbers parts → map value parts ≡ ns → AreSmall ns → join_with_byte 32 (first ∷ parts) ≡ first ++ 32 ∷ spaced ns
behind first [] ns some are same small = absurd (omega (arith, some, ap length same))
behind first (part ∷ more) ns some are same small =
    ap (λ (t : List ℕ). first ++ 32 ∷ t) (ap (join_with_byte 32) (decimals (part ∷ more) are (subst (λ (l : List ℕ). AreSmall l) (sym same) small)) ∙ ap (λ (l : List ℕ). spaced l) same)

-- 3. The bytes of a line are read as that line.

problem_read : (near : Bool) (n second : ℕ) → AreSmall (n ∷ second ∷ []) → problem_of near (map decimal (n ∷ second ∷ [])) ≡ Some (Problem near n second)
problem_read near n second small = rw (decimal_number n small.0, decimal_number second small.1.0, value_decimal n small.0, value_decimal second small.1.0) refl

row_read : (v d p : ℕ) (root : Option ℕ) → AreSmall (v ∷ d ∷ p ∷ root_numbers root) → row_of (map decimal (v ∷ d ∷ p ∷ root_numbers root)) ≡ Some (Row (record { vertex = v; dist = d; pred = p; root = root }))
row_read v d p None small = rw (decimal_number v small.0, decimal_number d small.1.0, decimal_number p small.1.1.0, value_decimal v small.0, value_decimal d small.1.0, value_decimal p small.1.1.0) refl
row_read v d p (Some r) small =
    rw (decimal_number v small.0, decimal_number d small.1.0, decimal_number p small.1.1.0, decimal_number r small.1.1.1.0, value_decimal v small.0, value_decimal d small.1.0, value_decimal p small.1.1.0, value_decimal r small.1.1.1.0) refl

pub read_back : (line : Line) → IsSmall line → line_in (line_bytes line) ≡ Some line
unfolding line_in
read_back (Problem false n second) small = ap (λ (t : List (List ℕ)). problem_of false t) (spaced_fields (n ∷ second ∷ []) (omega arith) small) ∙ problem_read false n second small
read_back (Problem true n second) small = ap (λ (t : List (List ℕ)). problem_of true t) (spaced_fields (n ∷ second ∷ []) (omega arith) small) ∙ problem_read true n second small
read_back (Row row) small = ap (λ (t : List (List ℕ)). row_of t) (spaced_fields (numbers row) (omega arith) small) ∙ row_read row.vertex row.dist row.pred row.root small
read_back (End count) small =
    ap (λ (t : List (List ℕ)). end_of t) (slice_split_none (λ b. eqb b 32) (decimal count) (decimal_no_space count small))
    ∙ rw (decimal_number count small, value_decimal count small) refl

-- 4. The bytes that are read as a line are its bytes.

row_joined : (more : List (List ℕ)) (line : Line) → row_of more ≡ Some line → IsSmall line → join_with_byte 32 ((118 ∷ []) ∷ more) ≡ line_bytes line
row_joined [] line h small = cc
row_joined (v ∷ []) line h small = cc
row_joined (v ∷ d ∷ []) line h small = cc
row_joined (v ∷ d ∷ p ∷ []) line h small =
    let found = cond_some_none (is_number v && is_number d && is_number p) (Row (record { vertex = value v; dist = value d; pred = value p; root = None })) line h in
    let both = and_parts (is_number v && is_number d) (is_number p) found.0 in
    let first = and_parts (is_number v) (is_number d) both.0 in
    rw (← found.1) (behind (118 ∷ []) (v ∷ d ∷ p ∷ []) (value v ∷ value d ∷ value p ∷ []) (omega arith) (first.0, (first.1, (both.1, tt))) refl (rw (← found.1) at small))
row_joined (v ∷ d ∷ p ∷ r ∷ []) line h small =
    let found = cond_some_none (is_number v && is_number d && is_number p && is_number r) (Row (record { vertex = value v; dist = value d; pred = value p; root = Some (value r) })) line h in
    let all = and_parts (is_number v && is_number d && is_number p) (is_number r) found.0 in
    let both = and_parts (is_number v && is_number d) (is_number p) all.0 in
    let first = and_parts (is_number v) (is_number d) both.0 in
    rw (← found.1) (behind (118 ∷ []) (v ∷ d ∷ p ∷ r ∷ []) (value v ∷ value d ∷ value p ∷ value r ∷ []) (omega arith) (first.0, (first.1, (both.1, (all.1, tt)))) refl (rw (← found.1) at small))
row_joined (v ∷ d ∷ p ∷ r ∷ x ∷ more) line h small = cc

problem_joined : (near : Bool) (more : List (List ℕ)) (line : Line) → problem_of near more ≡ Some line → IsSmall line → join_with_byte 32 ((112 ∷ []) ∷ word near ∷ more) ≡ line_bytes line
problem_joined near [] line h small = cc
problem_joined near (n ∷ []) line h small = cc
problem_joined near (n ∷ m ∷ []) line h small =
    let found = cond_some_none (is_number n && is_number m) (Problem near (value n) (value m)) line h in
    let both = and_parts (is_number n) (is_number m) found.0 in
    rw (← found.1) (ap (λ (t : List ℕ). 112 ∷ 32 ∷ t) (behind (word near) (n ∷ m ∷ []) (value n ∷ value m ∷ []) (omega arith) (both.0, (both.1, tt)) refl (rw (← found.1) at small)))
problem_joined near (n ∷ m ∷ x ∷ more) line h small = cc

-- A first line is read by its word.
pub by_first : {A : Type 0} (field : List ℕ) (more : List (List ℕ)) (line : Line) → ((near : Bool) → field ≡ word near → problem_of near more ≡ Some line → A) → first_of (field ∷ more) ≡ Some line → A
by_first field more line then h =
    let near_or : Option Line = cond (is_word (codes "near") field) (problem_of true more) None in
    ⊎_elim
    (λ (p : (is_word (codes "spt") field ≡ true) × (problem_of false more ≡ Some line)). then false (word_is (codes "spt") field p.0) p.1)
    (λ (later : near_or ≡ Some line). ⊎_elim
    (λ (p : (is_word (codes "near") field ≡ true) × (problem_of true more ≡ Some line)). then true (word_is (codes "near") field p.0) p.1)
    (λ (none : None ≡ Some line). absurd cc)
    (cond_some (is_word (codes "near") field) (problem_of true more) None line later))
    (cond_some (is_word (codes "spt") field) (problem_of false more) near_or line h)

first_joined : (more : List (List ℕ)) (line : Line) → first_of more ≡ Some line → IsSmall line → join_with_byte 32 ((112 ∷ []) ∷ more) ≡ line_bytes line
first_joined [] line h small = cc
first_joined (field ∷ more) line h small = by_first field more line (λ near is found. subst (λ (w : List ℕ). join_with_byte 32 ((112 ∷ []) ∷ w ∷ more) ≡ line_bytes line) (sym is) (problem_joined near more line found small)) h

end_joined : (more : List (List ℕ)) (line : Line) → end_of more ≡ Some line → IsSmall line → join_with_byte 32 ((101 ∷ []) ∷ more) ≡ line_bytes line
end_joined [] line h small = cc
end_joined (r ∷ []) line h small =
    let found = cond_some_none (is_number r) (End (value r)) line h in
    let sizes = rw (← found.1) at small in
    rw (← found.1) (rw (← number_decimal r found.0 sizes) refl)
end_joined (r ∷ x ∷ more) line h small = cc

-- A line is read by its letter.
pub by_letter : {A : Type 0} (word : List ℕ) (more : List (List ℕ)) (line : Line) → ((is_word (codes "v") word ≡ true) × (row_of more ≡ Some line) → A) → ((is_word (codes "p") word ≡ true) × (first_of more ≡ Some line) → A)
    → ((is_word (codes "e") word ≡ true) × (end_of more ≡ Some line) → A) → line_of (word ∷ more) ≡ Some line → A
by_letter word more line of_row of_first of_end h =
    let end_or : Option Line = cond (is_word (codes "e") word) (end_of more) None in
    let first_or : Option Line = cond (is_word (codes "p") word) (first_of more) end_or in
    ⊎_elim
    of_row
    (λ (later : first_or ≡ Some line). ⊎_elim
    of_first
    (λ (last : end_or ≡ Some line). ⊎_elim of_end (λ (none : None ≡ Some line). absurd cc) (cond_some (is_word (codes "e") word) (end_of more) None line last))
    (cond_some (is_word (codes "p") word) (first_of more) end_or line later))
    (cond_some (is_word (codes "v") word) (row_of more) first_or line h)

joined : (parts : List (List ℕ)) (line : Line) → line_of parts ≡ Some line → IsSmall line → join_with_byte 32 parts ≡ line_bytes line
joined [] line h small = cc
joined (word ∷ more) line h small = by_letter
    word
    more
    line
    (λ p. of_word (codes "v") word more (line_bytes line) p.0 (row_joined more line p.1 small))
    (λ p. of_word (codes "p") word more (line_bytes line) p.0 (first_joined more line p.1 small))
    (λ p. of_word (codes "e") word more (line_bytes line) p.0 (end_joined more line p.1 small))
    h

pub bytes_are : (bytes : List ℕ) (line : Line) → line_in bytes ≡ Some line → IsSmall line → bytes ≡ line_bytes line
unfolding line_in
bytes_are bytes line h small = sym (join_with_byte-slice_split 32 bytes) ∙ joined (fields bytes) line h small

-- 5. They are few, and none is an LF.

word_no_lf : (near : Bool) → HasNoLf (word near)
word_no_lf false = (λ e. omega (arith, e), (λ e. omega (arith, e), (λ e. omega (arith, e), tt)))
word_no_lf true = (λ e. omega (arith, e), (λ e. omega (arith, e), (λ e. omega (arith, e), (λ e. omega (arith, e), tt))))

word_short : (near : Bool) → length (word near) ≤ 8
word_short false = omega arith
word_short true = omega arith

few_roots : (root : Option ℕ) → length (root_numbers root) ≤ 1
few_roots None = omega arith
few_roots (Some root) = omega arith

pub bytes_no_lf : (line : Line) → IsSmall line → HasNoLf (line_bytes line)
bytes_no_lf (Problem near n second) small =
    (λ e. omega (arith, e), (λ e. omega (arith, e), no_lf_both (word near) (32 ∷ spaced (n ∷ second ∷ [])) (word_no_lf near) (λ e. omega (arith, e), spaced_no_lf (n ∷ second ∷ []) small)))
bytes_no_lf (Row row) small = (λ e. omega (arith, e), (λ e. omega (arith, e), spaced_no_lf (numbers row) small))
bytes_no_lf (End count) small = (λ e. omega (arith, e), (λ e. omega (arith, e), decimal_no_lf count small))

pub bytes_short : (line : Line) → IsSmall line → length (line_bytes line) ≤ 1024
bytes_short (Problem near n second) small = omega (arith, word_short near, spaced_short (n ∷ second ∷ []) small, length-append (word near) (32 ∷ spaced (n ∷ second ∷ [])))
bytes_short (Row row) small = omega (arith, few_roots row.root, spaced_short (numbers row) small)
bytes_short (End count) small = omega (arith, decimal_short count small)
