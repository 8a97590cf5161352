-- Lines of a text that goes on.
use Rattle.std.proofs.Common.{⊎_elim, ◌≡◌, ◌≢◌, ℕ, ◌+◌, ◌<◌, ◌≤◌, Bool, true, false, cond, eqb, ltb, List, [], ◌∷◌, ◌++◌, length, Option, Some, None, refl, sym, ap, ◌∙◌, append_assoc, arith, length-append}
use Rattle.std.proofs.lemmas.List.{append-nil}
use Rattle.std.proofs.lemmas.Bool.{ne_eqb, cases_eq, lt-ltb, ltb-true, ltb-false}
use Rattle.sp_text.specs.declared.faults.Kind.{Kind}
use Rattle.sp_text.specs.declared.faults.Kind.TheVariants.{LongLine, TooMany}
use Rattle.sp_text.specs.declared.faults.DimacsError.{DimacsError}
use Rattle.sp_text.specs.Lines.{cut, ended, rest}
use Rattle.sp_text.specs.Meaning.{HasNoLf}
use Rattle.sp_text.specs.First.{Judge, or_at, or_else, size_fault, line_fault, first_after, first_fault, rest_fault, fault_so_far}

-- cut, with the lines of what stood before in front
abbrev pub behind : List (List ℕ) → List (List ℕ) × List ℕ → List (List ℕ) × List ℕ
behind front c = (front ++ c.0, c.1)

-- one byte more in front
abbrev pub front_byte : Bool → List ℕ → List (List ℕ) × List ℕ → List (List ℕ) × List ℕ → List (List ℕ) × List ℕ
front_byte is_lf line closed open_line = cond is_lf (line ∷ closed.0, closed.1) open_line

front-append : (is_lf : Bool) (line longer a b : List ℕ) → cut [] (a ++ b) ≡ behind (cut [] a).0 (cut (cut [] a).1 b)
    → cut longer (a ++ b) ≡ behind (cut longer a).0 (cut (cut longer a).1 b)
    → front_byte is_lf line (cut [] (a ++ b)) (cut longer (a ++ b))
    ≡ behind (front_byte is_lf line (cut [] a) (cut longer a)).0 (cut (front_byte is_lf line (cut [] a) (cut longer a)).1 b)
front-append true line longer a b closed open_line = ap (λ (c : List (List ℕ) × List ℕ). (line ∷ c.0, c.1)) closed
front-append false line longer a b closed open_line = open_line

pub cut-append : (line : List ℕ) (a b : List ℕ) → cut line (a ++ b) ≡ behind (cut line a).0 (cut (cut line a).1 b)
cut-append line [] b = refl
cut-append line (x ∷ a) b = front-append (eqb x 10) line (line ++ x ∷ []) a b (cut-append [] a b) (cut-append (line ++ x ∷ []) a b)

pub ended_at_lf : (text : List ℕ) → ended (text ++ 10 ∷ []) ≡ ended text ++ rest text ∷ []
unfolding ended rest
ended_at_lf text = ap (λ (c : List (List ℕ) × List ℕ). c.0) (cut-append [] text (10 ∷ []))

pub rest_at_lf : (text : List ℕ) → rest (text ++ 10 ∷ []) ≡ []
unfolding ended rest
rest_at_lf text = ap (λ (c : List (List ℕ) × List ℕ). c.1) (cut-append [] text (10 ∷ []))

cut_other : (line : List ℕ) (b : ℕ) → b ≢ 10 → cut line (b ∷ []) ≡ ([], line ++ b ∷ [])
cut_other line b other = rw (ne_eqb b 10 other) refl

pub ended_at_other : (text : List ℕ) (b : ℕ) → b ≢ 10 → ended (text ++ b ∷ []) ≡ ended text
unfolding ended rest
ended_at_other text b other =
    ap (λ (c : List (List ℕ) × List ℕ). c.0) (cut-append [] text (b ∷ []) ∙ ap (behind (cut [] text).0) (cut_other (cut [] text).1 b other)) ∙ append-nil (cut [] text).0

pub rest_at_other : (text : List ℕ) (b : ℕ) → b ≢ 10 → rest (text ++ b ∷ []) ≡ rest text ++ b ∷ []
unfolding ended rest
rest_at_other text b other =
    ap (λ (c : List (List ℕ) × List ℕ). c.1) (cut-append [] text (b ∷ []) ∙ ap (behind (cut [] text).0) (cut_other (cut [] text).1 b other))

-- A run of bytes without an LF.

pub no_lf_both : (a b : List ℕ) → HasNoLf a → HasNoLf b → HasNoLf (a ++ b)
no_lf_both [] b first second = second
no_lf_both (x ∷ a) b first second = (first.0, no_lf_both a b first.1 second)

cut_run : (line run : List ℕ) → HasNoLf run → cut line run ≡ ([], line ++ run)
cut_run line [] none = ap (λ (r : List ℕ). ([], r)) (sym (append-nil line))
cut_run line (b ∷ run) none = rw (ne_eqb b 10 none.0) (cut_run (line ++ b ∷ []) run none.1 ∙ ap (λ (r : List ℕ). ([], r)) (append_assoc line (b ∷ []) run))

pub ended_at_run : (text run : List ℕ) → HasNoLf run → ended (text ++ run) ≡ ended text
unfolding ended rest
ended_at_run text run none =
    ap (λ (c : List (List ℕ) × List ℕ). c.0) (cut-append [] text run ∙ ap (behind (cut [] text).0) (cut_run (cut [] text).1 run none)) ∙ append-nil (cut [] text).0

pub rest_at_run : (text run : List ℕ) → HasNoLf run → rest (text ++ run) ≡ rest text ++ run
unfolding ended rest
rest_at_run text run none =
    ap (λ (c : List (List ℕ) × List ℕ). c.1) (cut-append [] text run ∙ ap (behind (cut [] text).0) (cut_run (cut [] text).1 run none))

pub early_at_run : (judge : Judge) (text run : List ℕ) → HasNoLf run
    → fault_so_far judge (text ++ run) ≡ or_else (first_fault judge (ended text)) (or_at (length (ended text) + 1) (rest_fault judge (ended text) (rest text ++ run)) None)
unfolding fault_so_far
early_at_run judge text run none = rw (ended_at_run text run none, rest_at_run text run none) refl

-- The first fault of lines that go on.

or_at-or_else : (n : ℕ) (kind : Option Kind) (x y : Option DimacsError) → or_at n kind (or_else x y) ≡ or_else (or_at n kind x) y
or_at-or_else n None x y = refl
or_at-or_else n (Some k) x y = refl

pub first_after-append : (judge : Judge) (before xs ys : List (List ℕ)) → first_after judge before (xs ++ ys) ≡ or_else (first_after judge before xs) (first_after judge (before ++ xs) ys)
unfolding first_after
first_after-append judge before [] ys = rw (append-nil before) refl
first_after-append judge before (x ∷ xs) ys =
    ap (or_at (length before + 1) (line_fault judge before x)) (first_after-append judge (before ++ x ∷ []) xs ys ∙ ap (λ (b : List (List ℕ)). or_else (first_after judge (before ++ x ∷ []) xs) (first_after judge b ys)) (append_assoc before (x ∷ []) xs))
    ∙ or_at-or_else (length before + 1) (line_fault judge before x) (first_after judge (before ++ x ∷ []) xs) (first_after judge (before ++ x ∷ xs) ys)

-- one line more, behind lines without a fault
pub first_push : (judge : Judge) (all : List (List ℕ)) (line : List ℕ) → first_fault judge all ≡ None → first_fault judge (all ++ line ∷ []) ≡ or_at (length all + 1) (line_fault judge all line) None
unfolding first_after
first_push judge all line none = first_after-append judge [] all (line ∷ []) ∙ rw none refl

-- What early says of a text with one byte more.

pub or_else_none : (x : Option DimacsError) → or_else x None ≡ x
or_else_none None = refl
or_else_none (Some e) = refl

pub early_at_lf : (judge : Judge) (text : List ℕ)
    → fault_so_far judge (text ++ 10 ∷ []) ≡ or_else (first_fault judge (ended text)) (or_at (length (ended text) + 1) (line_fault judge (ended text) (rest text)) None)
unfolding fault_so_far first_after
early_at_lf judge text =
    rw (ended_at_lf text, rest_at_lf text) (or_else_none (first_fault judge (ended text ++ rest text ∷ [])) ∙ first_after-append judge [] (ended text) (rest text ∷ []))

rest_push : (judge : Judge) (before : List (List ℕ)) (r : List ℕ) (b : ℕ) → rest_fault judge before (r ++ b ∷ []) ≡ size_fault judge before (r ++ b ∷ [])
rest_push judge before [] b = refl
rest_push judge before (x ∷ r) b = refl

pub early_at_other : (judge : Judge) (text : List ℕ) (b : ℕ) → b ≢ 10
    → fault_so_far judge (text ++ b ∷ []) ≡ or_else (first_fault judge (ended text)) (or_at (length (ended text) + 1) (size_fault judge (ended text) (rest text ++ b ∷ [])) None)
unfolding fault_so_far
early_at_other judge text b other = rw (ended_at_other text b other, rest_at_other text b other, rest_push judge (ended text) (rest text) b) refl

-- Where there is no fault yet, the lines have none, and what came of the next one is in order.
pub none_parts : (first : Option DimacsError) (n : ℕ) (kind : Option Kind) → or_else first (or_at n kind None) ≡ None → (first ≡ None) × (kind ≡ None)
none_parts None n None h = (refl, refl)
none_parts None n (Some kind) h = cc
none_parts (Some e) n kind h = cc

size_parts : (closed long : Bool) → cond closed (Some TooMany) (cond long (Some LongLine) None) ≡ None → (closed ≡ false) × (long ≡ false)
size_parts true long h = cc
size_parts false true h = cc
size_parts false false h = (refl, refl)

rest_short : (judge : Judge) (before : List (List ℕ)) (r : List ℕ) → rest_fault judge before r ≡ None → length r ≤ 1024
rest_short judge before [] h = omega arith
rest_short judge before (b ∷ r) h = ltb-false 1024 (length (b ∷ r)) (size_parts (judge.closed before) (ltb 1024 (length (b ∷ r))) h).1

pub rest_open : (judge : Judge) (before : List (List ℕ)) (r : List ℕ) → rest_fault judge before r ≡ None → 0 < length r → judge.closed before ≡ false
rest_open judge before [] h some = absurd (omega arith)
rest_open judge before (b ∷ r) h some = (size_parts (judge.closed before) (ltb 1024 (length (b ∷ r))) h).0

pub clean_parts : (judge : Judge) (text : List ℕ) → fault_so_far judge text ≡ None → (first_fault judge (ended text) ≡ None) × (length (rest text) ≤ 1024)
unfolding fault_so_far
clean_parts judge text clean =
    let parts = none_parts (first_fault judge (ended text)) (length (ended text) + 1) (rest_fault judge (ended text) (rest text)) clean in
    (parts.0, rest_short judge (ended text) (rest text) parts.1)

pub open_while : (judge : Judge) (text : List ℕ) → fault_so_far judge text ≡ None → 0 < length (rest text) → judge.closed (ended text) ≡ false
unfolding fault_so_far
open_while judge text clean some =
    let parts = none_parts (first_fault judge (ended text)) (length (ended text) + 1) (rest_fault judge (ended text) (rest text)) clean in
    rest_open judge (ended text) (rest text) parts.1 some

-- A fault stays, whatever comes.
stays : (first : Option DimacsError) (n : ℕ) (kind later : Option Kind) (e : DimacsError) → ((k : Kind) → kind ≡ Some k → later ≡ Some k)
    → or_else first (or_at n kind None) ≡ Some e → or_else first (or_at n later None) ≡ Some e
stays None n None later e same h = cc
stays None n (Some k) later e same h = rw (same k refl) h
stays (Some x) n kind later e same h = h

lf_same : (judge : Judge) (before : List (List ℕ)) (r : List ℕ) (k : Kind) → rest_fault judge before r ≡ Some k → line_fault judge before r ≡ Some k
lf_same judge before [] k h = cc
lf_same judge before (b ∷ r) k h = rw h refl

size_same : (closed long longer : Bool) (k : Kind) → (long ≡ true → longer ≡ true) → cond closed (Some TooMany) (cond long (Some LongLine) None) ≡ Some k → cond closed (Some TooMany) (cond longer (Some LongLine) None) ≡ Some k
size_same true long longer k grows h = h
size_same false true longer k grows h = rw (grows refl) h
size_same false false longer k grows h = cc

longer_too : (r : List ℕ) (b : ℕ) → ltb 1024 (length r) ≡ true → ltb 1024 (length (r ++ b ∷ [])) ≡ true
longer_too r b long = lt-ltb 1024 (length (r ++ b ∷ [])) (omega (arith, length-append r (b ∷ []), ltb-true 1024 (length r) long))

other_same : (judge : Judge) (before : List (List ℕ)) (r : List ℕ) (b : ℕ) (k : Kind) → rest_fault judge before r ≡ Some k → size_fault judge before (r ++ b ∷ []) ≡ Some k
other_same judge before [] b k h = cc
other_same judge before (x ∷ r) b k h = size_same (judge.closed before) (ltb 1024 (length (x ∷ r))) (ltb 1024 (length (x ∷ r ++ b ∷ []))) k (longer_too (x ∷ r) b) h

pub fault_stays : (judge : Judge) (text : List ℕ) (b : ℕ) (e : DimacsError) → fault_so_far judge text ≡ Some e → fault_so_far judge (text ++ b ∷ []) ≡ Some e
unfolding fault_so_far
fault_stays judge text b e h = ⊎_elim
    (λ (is : b ≡ 10). rw is (early_at_lf judge text ∙ stays (first_fault judge (ended text)) (length (ended text) + 1) (rest_fault judge (ended text) (rest text)) (line_fault judge (ended text) (rest text)) e (lf_same judge (ended text) (rest text)) h))
    (λ (other : b ≢ 10). early_at_other judge text b other ∙ stays (first_fault judge (ended text)) (length (ended text) + 1) (rest_fault judge (ended text) (rest text)) (size_fault judge (ended text) (rest text ++ b ∷ [])) e (other_same judge (ended text) (rest text) b) h)
    (cases_eq b 10)

pub fault_lasts : (judge : Judge) (text more : List ℕ) (e : DimacsError) → fault_so_far judge text ≡ Some e → fault_so_far judge (text ++ more) ≡ Some e
fault_lasts judge text [] e h = rw (append-nil text) h
fault_lasts judge text (b ∷ more) e h = rw (← append_assoc text (b ∷ []) more) (fault_lasts judge (text ++ b ∷ []) more e (fault_stays judge text b e h))
