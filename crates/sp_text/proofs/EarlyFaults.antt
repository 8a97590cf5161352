-- What an early fault says of the whole text.
use Rattle.std.proofs.Common.{◌≡◌, ℕ, ◌+◌, Bool, true, false, List, [], ◌∷◌, ◌++◌, length, Option, Some, None, refl, ap, ◌∙◌}
use Rattle.sp_text.specs.declared.faults.Kind.{Kind}
use Rattle.sp_text.specs.declared.faults.DimacsError.{DimacsError}
use Rattle.sp_text.specs.Lines.{ended, rest, lines, last_line}
use Rattle.sp_text.specs.First.{Judge, or_at, or_else, or_kind, size_fault, first_after, first_fault, rest_fault, fault_so_far, fault_without_end, fault_at_end}
use Rattle.sp_text.proofs.LineCuts.{first_after-append, fault_lasts}

by_size : (size : Option Kind) (n : ℕ) (before : List (List ℕ)) (fault : Option Kind) (missing : Option DimacsError) (e : DimacsError) → n ≡ length before + 1
    → or_at n size None ≡ Some e → or_else (or_at (length before + 1) (or_kind size fault) None) missing ≡ Some e
by_size (Some k) n before fault missing e is h = rw (← is) h
by_size None n before fault missing e is h = cc

-- The rest of a text without an LF at its end is its last line.
told_early : (judge : Judge) (n : ℕ) (first : Option DimacsError) (before : List (List ℕ)) (r : List ℕ) (missing : Option DimacsError) (e : DimacsError) → n ≡ length before + 1
    → or_else first (or_at n (rest_fault judge before r) None) ≡ Some e → or_else (or_else first (first_after judge before (last_line r))) missing ≡ Some e
unfolding first_after
told_early judge n (Some x) before r missing e is h = h
told_early judge n None before [] missing e is h = cc
told_early judge n None before (b ∷ r) missing e is h = by_size (size_fault judge before (b ∷ r)) n before (judge.fault before (b ∷ r)) missing e is h

early_first : (needs_lf : Bool) (judge : Judge) (text : List ℕ) (later : Option DimacsError) (e : DimacsError) → fault_so_far judge text ≡ Some e → later ≡ Some e → or_else (fault_without_end needs_lf judge text) later ≡ Some e
early_first false judge text later e h is = is
early_first true judge text later e h is = rw h refl

pub early_is_told : (judge : Judge) (text : List ℕ) (e : DimacsError) → fault_so_far judge text ≡ Some e → fault_at_end judge text ≡ Some e
unfolding fault_so_far fault_at_end lines
early_is_told judge text e h = early_first judge.needs_lf judge text _ e h (
    ap (λ (f : Option DimacsError). or_else f (or_at (length (ended text ++ last_line (rest text)) + 1) (judge.missing (ended text ++ last_line (rest text))) None)) (first_after-append judge [] (ended text) (last_line (rest text)))
    ∙ told_early judge (length (ended text) + 1) (first_fault judge (ended text)) (ended text) (rest text) (or_at (length (ended text ++ last_line (rest text)) + 1) (judge.missing (ended text ++ last_line (rest text))) None) e refl h)

pub early_lasts : (judge : Judge) (text more : List ℕ) (e : DimacsError) → fault_so_far judge text ≡ Some e → fault_at_end judge (text ++ more) ≡ Some e
early_lasts judge text more e h = early_is_told judge (text ++ more) e (fault_lasts judge text more e h)
