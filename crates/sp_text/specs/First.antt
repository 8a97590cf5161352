-- The first fault of a text, for any line forms.
use Rattle.std.specs.Prelude.{◌≢◌, ℕ, ◌+◌, Bool, true, false, List, [], ◌∷◌, ◌++◌, length, nat_lt, if◌then◌else◌, Option, Some, None}
use Rattle.sp_text.specs.declared.faults.Kind.{Kind}
use Rattle.sp_text.specs.declared.faults.Kind.TheVariants.{LongLine, TooMany, TooFew, Read}
use Rattle.sp_text.specs.declared.faults.DimacsError.{DimacsError}
use Rattle.sp_text.specs.declared.rooms.TheConstants.{LONGEST_LINE}
use Rattle.sp_text.specs.Lines.{ended, rest, lines}

-- The rules of a file: whether no line may follow some lines; the fault of a line, given the lines before it, which
-- have none; what is missing when the lines end; whether a line is an item line, whose value needs memory; and whether
-- each line, including the last, needs its LF.
pub record Judge : Type 0 where
  pub closed : List (List ℕ) → Bool
  pub fault : List (List ℕ) → List ℕ → Option Kind
  pub missing : List (List ℕ) → Option Kind
  pub is_item : List ℕ → Bool
  pub needs_lf : Bool

-- No line has the fault of a device.
pub record IsSilent (judge : Judge) : Type 0 where
  pub fault : (before : List (List ℕ)) (line : List ℕ) → judge.fault before line ≢ Some Read
  pub missing : (all : List (List ℕ)) → judge.missing all ≢ Some Read

-- This is the fault of this line, if it has one, and otherwise a later fault.
abbrev pub or_at : ℕ → Option Kind → Option DimacsError → Option DimacsError
or_at line None later = later
or_at line (Some kind) later = Some (record { line = line; kind = kind })

-- This is the fault found earlier, if there is one, and otherwise the later one.
abbrev pub or_else : Option DimacsError → Option DimacsError → Option DimacsError
or_else None later = later
or_else (Some e) later = Some e

-- This is the first of two kinds of fault, if there is one, and otherwise the second.
abbrev pub or_kind : Option Kind → Option Kind → Option Kind
or_kind None later = later
or_kind (Some kind) later = Some kind

-- The bytes of a line alone show that it shouldn't be there, or that it has too many bytes.
abbrev pub size_fault : Judge → List (List ℕ) → List ℕ → Option Kind
size_fault judge before line = if judge.closed before then Some TooMany else (if nat_lt LONGEST_LINE (length line) then Some LongLine else None)

-- This is the fault of a line, given the lines before it.
abbrev pub line_fault : Judge → List (List ℕ) → List ℕ → Option Kind
line_fault judge before line = or_kind (size_fault judge before line) (judge.fault before line)

-- This is the first fault of these lines, which come after `before`.
unfoldable pub first_after : Judge → List (List ℕ) → List (List ℕ) → Option DimacsError
first_after judge before [] = None
first_after judge before (line ∷ more) = or_at (length before + 1) (line_fault judge before line) (first_after judge (before ++ line ∷ []) more)

-- This is the first fault of these lines.
abbrev pub first_fault : Judge → List (List ℕ) → Option DimacsError
first_fault judge all = first_after judge [] all

-- The text may continue: a line whose LF came has a fault, or the part that came of the next one shows a fault.
abbrev pub rest_fault : Judge → List (List ℕ) → List ℕ → Option Kind
rest_fault judge before [] = None
rest_fault judge before (b ∷ bytes) = size_fault judge before (b ∷ bytes)

-- This is the first fault that a text shows while it may continue.
unfoldable pub fault_so_far : Judge → List ℕ → Option DimacsError
fault_so_far judge text = or_else (first_fault judge (ended text)) (or_at (length (ended text) + 1) (rest_fault judge (ended text) (rest text)) None)

-- The device failed after this text: the fault is an earlier one, or Read at the line that was being read.
unfoldable pub fault_at_failure : Judge → List ℕ → Option DimacsError
fault_at_failure judge text = or_else (fault_so_far judge text) (or_at (length (ended text) + 1) (Some Read) None)

-- The text has ended within a line: the fault is an earlier one, or TooFew at that line.
abbrev pub cut_short : List ℕ → Option Kind
cut_short [] = None
cut_short (b ∷ bytes) = Some TooFew

-- If each line needs its LF, this is the fault of a text that has ended, as far as its last line lacks that.
abbrev pub fault_without_end : (needs_lf : Bool) → Judge → List ℕ → Option DimacsError
fault_without_end false judge text = None
fault_without_end true judge text = or_else (fault_so_far judge text) (or_at (length (ended text) + 1) (cut_short (rest text)) None)

-- The text has ended: its last line lacks an LF that it needs, or a line has a fault, or something is missing at the
-- line after the last.
unfoldable pub fault_at_end : Judge → List ℕ → Option DimacsError
fault_at_end judge text = or_else (fault_without_end judge.needs_lf judge text)
    (or_else (first_fault judge (lines text)) (or_at (length (lines text) + 1) (judge.missing (lines text)) None))
