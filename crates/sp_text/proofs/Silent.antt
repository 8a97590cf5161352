-- The fault of a device is told of no text under a silent judge.
use Rattle.std.proofs.Common.{◌≡◌, ◌≢◌, ℕ, ◌+◌, Bool, true, false, cond, List, [], ◌∷◌, ◌++◌, length, Option, Some, None, refl}
use Rattle.std.specs.Prelude.{nat_lt}
use Rattle.sp_text.specs.declared.faults.Kind.{Kind}
use Rattle.sp_text.specs.declared.faults.Kind.TheVariants.{LongLine, TooMany, Read}
use Rattle.sp_text.specs.declared.faults.DimacsError.{DimacsError}
use Rattle.sp_text.specs.Lines.{ended, rest, lines}
use Rattle.sp_text.specs.First.{Judge, IsSilent, or_at, or_else, or_kind, size_fault, line_fault, first_after, first_fault, rest_fault, fault_so_far, cut_short, fault_without_end, fault_at_end}
use Rattle.sp_text.specs.Text.{judge}

at_silent : (n : ℕ) (kind : Option Kind) (later : Option DimacsError) (e : DimacsError) → kind ≢ Some Read → (later ≡ Some e → e.kind ≢ Read) → or_at n kind later ≡ Some e → e.kind ≢ Read
at_silent n None later e silent more h is = more h is
at_silent n (Some kind) later e silent more h is =
    let same : kind ≡ e.kind = cc in
    let read : kind ≡ Read = cc in
    silent (rw read refl)

else_silent : (first later : Option DimacsError) (e : DimacsError) → (first ≡ Some e → e.kind ≢ Read) → (later ≡ Some e → e.kind ≢ Read) → or_else first later ≡ Some e → e.kind ≢ Read
else_silent None later e first_silent more h is = more h is
else_silent (Some x) later e first_silent more h is = first_silent h is

size_silent : (closed long : Bool) → cond closed (Some TooMany) (cond long (Some LongLine) None) ≢ Some Read
size_silent true long h = cc
size_silent false true h = cc
size_silent false false h = cc

kind_silent : (first later : Option Kind) → first ≢ Some Read → later ≢ Some Read → or_kind first later ≢ Some Read
kind_silent None later one two h = two h
kind_silent (Some kind) later one two h = one h

line_silent : (judge : Judge) → IsSilent judge → (before : List (List ℕ)) (line : List ℕ) → line_fault judge before line ≢ Some Read
line_silent judge silent before line h =
    kind_silent (size_fault judge before line) (judge.fault before line) (size_silent (judge.closed before) (nat_lt 1024 (length line))) (silent.fault before line) h

after_silent : (judge : Judge) → IsSilent judge → (before all : List (List ℕ)) (e : DimacsError) → first_after judge before all ≡ Some e → e.kind ≢ Read
unfolding first_after
after_silent judge silent before [] e h is = cc
after_silent judge silent before (line ∷ all) e h is =
    at_silent (length before + 1) (line_fault judge before line) (first_after judge (before ++ line ∷ []) all) e (line_silent judge silent before line) (after_silent judge silent (before ++ line ∷ []) all e) h is

no_more : (e : DimacsError) → ◌≡◌ {A = Option DimacsError} None (Some e) → e.kind ≢ Read
no_more e h is = cc

rest_silent : (judge : Judge) (before : List (List ℕ)) (r : List ℕ) → rest_fault judge before r ≢ Some Read
rest_silent judge before [] h = cc
rest_silent judge before (b ∷ r) h = size_silent (judge.closed before) (nat_lt 1024 (length (b ∷ r))) h

pub early_silent : (judge : Judge) → IsSilent judge → (text : List ℕ) (e : DimacsError) → fault_so_far judge text ≡ Some e → e.kind ≢ Read
unfolding fault_so_far
early_silent judge silent text e h =
    else_silent (first_fault judge (ended text)) (or_at (length (ended text) + 1) (rest_fault judge (ended text) (rest text)) None) e (after_silent judge silent [] (ended text) e)
    (at_silent (length (ended text) + 1) (rest_fault judge (ended text) (rest text)) None e (rest_silent judge (ended text) (rest text)) (no_more e)) h

short_silent : (r : List ℕ) → cut_short r ≢ Some Read
short_silent [] h = cc
short_silent (b ∷ r) h = cc

unfinished_silent : (needs_lf : Bool) (judge : Judge) → IsSilent judge → (text : List ℕ) (e : DimacsError) → fault_without_end needs_lf judge text ≡ Some e → e.kind ≢ Read
unfinished_silent false judge silent text e h is = cc
unfinished_silent true judge silent text e h is =
    else_silent (fault_so_far judge text) (or_at (length (ended text) + 1) (cut_short (rest text)) None) e (early_silent judge silent text e)
    (at_silent (length (ended text) + 1) (cut_short (rest text)) None e (short_silent (rest text)) (no_more e)) h is

pub told_silent : (judge : Judge) → IsSilent judge → (text : List ℕ) (e : DimacsError) → fault_at_end judge text ≡ Some e → e.kind ≢ Read
unfolding fault_at_end
told_silent judge silent text e h =
    let ending = or_at (length (lines text) + 1) (judge.missing (lines text)) None in
    else_silent (fault_without_end judge.needs_lf judge text) (or_else (first_fault judge (lines text)) ending) e (unfinished_silent judge.needs_lf judge silent text e)
    (else_silent (first_fault judge (lines text)) ending e (after_silent judge silent [] (lines text) e)
    (at_silent (length (lines text) + 1) (judge.missing (lines text)) None e (silent.missing (lines text)) (no_more e))) h
