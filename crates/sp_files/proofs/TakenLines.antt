-- The lines of a file, as they are taken.
use Rattle.std.proofs.Common.{◌≡◌, ℕ, List, [], ◌∷◌, ◌++◌, Bool, true, false, cond, Option, Some, None, Result, Ok, Err, refl, sym, ap, ◌∙◌, arith}
use Rattle.std.specs.Prelude.{is_some}
use mathlib.Core.Bool.{beq}
use Rattle.sp_word.specs.Word.{is_layout, max_pred}
use Rattle.sp_text.specs.declared.faults.Kind.{Kind}
use Rattle.sp_text.specs.Feeding.{Takes}
use Rattle.sp_text.specs.Numeral.{capped_value}
use Rattle.sp_files.specs.declared.lines.RowNumbers.{RowNumbers}
use Rattle.sp_files.specs.declared.lines.Line.{Line}
use Rattle.sp_files.specs.declared.lines.Line.TheVariants.{Problem, Row, End}
use Rattle.sp_files.specs.declared.taking.Spelled.{Spelled}
use Rattle.sp_files.specs.declared.taking.Spelled.TheVariants.{Nothing, Open, Whole}
use Rattle.sp_files.specs.declared.taking.FileLines.{FileLines}
use Rattle.sp_files.specs.Spelling.{Content, OfTree, OfForest, place, begin, add, next, spelled_from, spelling_state, second_range, problem_fault, row_fault, fault, line_in, capped_line, is_row, judge}
use Rattle.sp_files.specs.Taking.{FileForm, spelled_by, Holds, Answers}
use Rattle.sp_files.specs.Reading.{HasTaken}
use Rattle.sp_files.proofs.Ranges.{maxima_small, range_facts, range_capped, small_same, first_capped}
use Rattle.sp_files.proofs.Contents.{count_small, row_capped, same_kind, row_same, problem_small, begun, added}

-- One line more.

push_from : (s : Spelled Content) (before : List (List ℕ)) (line : List ℕ) → spelled_from s (before ++ line ∷ []) ≡ next (spelled_from s before) (line_in line)
push_from s [] line = refl
push_from s (x ∷ before) line = push_from (next s (line_in x)) before line

pub spelled_push : (before : List (List ℕ)) (line : List ℕ) → spelling_state (before ++ line ∷ []) ≡ next (spelling_state before) (line_in line)
spelled_push before line = push_from Nothing before line

-- A line without a fault is one of the file.

both_none : {A : Type 0} (b : Bool) (x : Option A) (other : A) → cond b x (Some other) ≡ None → (b ≡ true) × (x ≡ None)
both_none true x other none = (refl, none)
both_none false x other none = cc

beq_same : (a b : Bool) → beq a b ≡ true → a ≡ b
beq_same true true h = refl
beq_same false false h = refl
beq_same true false h = cc
beq_same false true h = cc

no_stray : (b : Bool) (k l : Kind) → cond b (Some k) (Some l) ≡ None → ⊥
no_stray true k l none = cc
no_stray false k l none = cc

-- This is what a line without a fault is.
abbrev pub Follows : (P : ℕ) → (begins : Bool → Bool) → Spelled Content → Option Line → Type 0
Follows P begins Nothing (Some (Problem near n second)) = (begins near ≡ true) × (problem_fault P near n second ≡ None)
Follows P begins (Open t) (Some (Row row)) = (is_some row.root ≡ (place t).rooted) × (row_fault P (place t) row ≡ None)
Follows P begins (Open t) (Some (End count)) = count ≡ (place t).rows
Follows P begins s line = ⊥

pub follows : (P : ℕ) (begins : Bool → Bool) (s : Spelled Content) (line : Option Line) → fault P begins s line ≡ None → Follows P begins s line
follows P begins (Whole t) line none = cc
follows P begins Nothing None none = cc
follows P begins (Open t) None none = cc
follows P begins Nothing (Some (Problem near n second)) none = both_none (begins near) _ _ none
follows P begins Nothing (Some (Row row)) none = no_stray _ _ _ none
follows P begins Nothing (Some (End count)) none = cc
follows P begins (Open t) (Some (Problem near n second)) none = no_stray _ _ _ none
follows P begins (Open t) (Some (Row row)) none =
    let both = both_none _ _ _ none in
    (beq_same (is_some row.root) (place t).rooted both.0, both.1)
follows P begins (Open t) (Some (End count)) none =
    let range = range_facts 82 (place t).rows (place t).rows count None none in
    omega (arith, range.0, range.1)

-- What is spelled then, a file may hold.

begun_kind : (near : Bool) (n second : ℕ) → (place (begin near n second)).rooted ≡ near
begun_kind false n second = refl
begun_kind true n second = refl

added_kind : (t : Content) (row : RowNumbers) → (place (add t row)).rooted ≡ (place t).rooted
added_kind (OfTree t) row = refl
added_kind (OfForest k f) row = refl

pub holds_next : (P : ℕ) (begins : Bool → Bool) (s : Spelled Content) (line : Option Line) → is_layout P ≡ true → Holds P begins s → Follows P begins s line → Holds P begins (next s line)
holds_next P begins (Whole t) line layout h is = absurd is
holds_next P begins Nothing None layout h is = absurd is
holds_next P begins (Open t) None layout h is = absurd is
holds_next P begins Nothing (Some (Problem near n second)) layout h is = (begun P near n second layout is.1, rw (begun_kind near n second) is.0)
holds_next P begins Nothing (Some (Row row)) layout h is = absurd is
holds_next P begins Nothing (Some (End count)) layout h is = absurd is
holds_next P begins (Open t) (Some (Problem near n second)) layout h is = absurd is
holds_next P begins (Open t) (Some (Row row)) layout h is = (added P t row h.0 is.0 is.1, rw (added_kind t row) h.1)
holds_next P begins (Open t) (Some (End count)) layout h is = h

-- A number that 64 bits can't hold shows the same fault as it is capped.

problem_capped : (P : ℕ) (near : Bool) (n second : ℕ) → is_layout P ≡ true → problem_fault P near (capped_value n) (capped_value second) ≡ problem_fault P near n second
problem_capped P near n second layout = first_capped (second_range near).0 (second_range near).1 (max_pred P) n second (maxima_small P layout).0

capped_fault : (P : ℕ) (begins : Bool → Bool) (s : Spelled Content) (line : Option Line) → is_layout P ≡ true → Holds P begins s → fault P begins s (capped_line line) ≡ fault P begins s line
capped_fault P begins (Whole t) line layout h = refl
capped_fault P begins Nothing None layout h = refl
capped_fault P begins (Open t) None layout h = refl
capped_fault P begins Nothing (Some (Problem near n second)) layout h = rw (problem_capped P near n second layout) refl
capped_fault P begins Nothing (Some (Row row)) layout h = rw (same_kind row.root) refl
capped_fault P begins Nothing (Some (End count)) layout h = refl
capped_fault P begins (Open t) (Some (Problem near n second)) layout h = refl
capped_fault P begins (Open t) (Some (Row row)) layout h = rw (same_kind row.root, row_capped P t row h.0) refl
capped_fault P begins (Open t) (Some (End count)) layout h = range_capped 82 (place t).rows (place t).rows count None None (count_small P t h.0) (λ _. refl)

-- What is without a fault is as it was read.
capped_same : (P : ℕ) (begins : Bool → Bool) (s : Spelled Content) (line : Option Line) → is_layout P ≡ true → Holds P begins s → Follows P begins s line → capped_line line ≡ line
capped_same P begins (Whole t) line layout h is = absurd is
capped_same P begins Nothing None layout h is = refl
capped_same P begins (Open t) None layout h is = refl
capped_same P begins Nothing (Some (Problem near n second)) layout h is =
    let small = problem_small P near n second layout is.1 in
    rw (small_same n small.0, small_same second small.1) refl
capped_same P begins Nothing (Some (Row row)) layout h is = absurd is
capped_same P begins Nothing (Some (End count)) layout h is = absurd is
capped_same P begins (Open t) (Some (Problem near n second)) layout h is = absurd is
capped_same P begins (Open t) (Some (Row row)) layout h is = ap (λ r. Some (Row r)) (row_same P t row h.0 is.1).0
capped_same P begins (Open t) (Some (End count)) layout h is = rw (small_same count (omega (arith, is, count_small P t h.0))) refl

capped_row_line : (line : Option Line) → is_row (capped_line line) ≡ is_row line
capped_row_line None = refl
capped_row_line (Some (Problem near n second)) = refl
capped_row_line (Some (Row row)) = refl
capped_row_line (Some (End count)) = refl

-- The answer to the numbers that were read is that to the line.
pub taken : {V : Type 0} {P : ℕ} (form : FileForm V) (before : List (List ℕ)) (line : List ℕ) (old new : FileLines V P) (found : Option Line) (result : Result (Unit {0}) Kind)
    → is_layout P ≡ true → HasTaken form old before → found ≡ capped_line (line_in line) → Answers P form.begins (spelled_by form old.spelled) found result (spelled_by form new.spelled)
    → Takes (judge P form.begins) (HasTaken form) before line result new
taken {P = P} form before line old new found (Ok u) layout (at, holds) same (none, next_is) =
    let s = spelling_state before in
    let clean : fault P form.begins s (line_in line) ≡ None = sym (capped_fault P form.begins s (line_in line) layout holds) ∙ (rw (at, same) at none) in
    let is = follows P form.begins s (line_in line) clean in
    (clean, (next_is ∙ rw (at, same, capped_same P form.begins s (line_in line) layout holds is, spelled_push before line) refl, rw (spelled_push before line) (holds_next P form.begins s (line_in line) layout holds is)))
taken {P = P} form before line old new found (Err kind) layout (at, holds) same answers =
    rw (at, same, capped_fault P form.begins (spelling_state before) (line_in line) layout holds, capped_row_line (line_in line)) at answers
