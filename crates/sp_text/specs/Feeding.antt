-- The position of a reader that is fed in pieces.
use Rattle.std.specs.Prelude.{◌≡◌, ℕ, ◌+◌, ◌^◌, ◌<◌, ◌≤◌, ◌⊎◌, Bool, true, false, List, [], ◌∷◌, ◌++◌, length, Some, None, Result, Ok, Err}
use Rattle.sp_text.specs.declared.faults.Kind.{Kind}
use Rattle.sp_text.specs.declared.faults.Kind.TheVariants.{Memory}
use Rattle.sp_text.specs.declared.faults.DimacsError.{DimacsError}
use Rattle.sp_text.specs.declared.feeding.Feeder.{Feeder}
use Rattle.sp_text.specs.Lines.{ended, rest, lines}
use Rattle.sp_text.specs.Meaning.{HasNoLf}
use Rattle.sp_text.specs.First.{Judge, first_fault, fault_so_far, fault_at_failure, fault_at_end}

-- This is what a taker of lines answers to a line: its fault; otherwise the next state follows, or there was no memory
-- for the value of an item line. `After` relates a state to the lines that it was given, none of which has a fault.
abbrev pub Takes : {T U : Type 0} → Judge → (T → List (List ℕ) → Type 0) → List (List ℕ) → List ℕ → Result U Kind → T → Type 0
Takes judge After before line (Ok u) new = (judge.fault before line ≡ None) × After new (before ++ line ∷ [])
Takes judge After before line (Err kind) new = (judge.fault before line ≡ Some kind) ⊎ ((judge.fault before line ≡ None) × (kind ≡ Memory) × (judge.is_item line ≡ true))

-- The reader has read this text, in which there is no fault yet.
pub record IsBehind {T : Type 0} (judge : Judge) (After : T → List (List ℕ) → Type 0) (text : List ℕ) (reader : Feeder T) : Type 0 where
  pub going : reader.spent ≡ None
  pub clean : fault_so_far judge text ≡ None
  pub room : reader.room ≡ rest text
  pub ends : reader.ends ≡ length (ended text)
  pub taken : After reader.taker (ended text)

-- There was no memory for the value of this line of `all`, an item line. It comes after the lines of `before`, which
-- were taken earlier, and no line up to it has a fault.
pub record IsMemory (judge : Judge) (before all : List (List ℕ)) (e : DimacsError) : Type 0 where
  pub kind : e.kind ≡ Memory
  pub front : List (List ℕ)
  pub line : List ℕ
  pub behind : List (List ℕ)
  pub parts : all ≡ front ++ line ∷ behind
  pub place : e.line ≡ length front + 1
  pub later : length before ≤ length front
  pub item : judge.is_item line ≡ true
  pub clean : first_fault judge (front ++ line ∷ []) ≡ None

-- This is the answer to a text that may continue. The lines of `before` had ended before its last piece.
abbrev pub Refused : Judge → List (List ℕ) → List ℕ → DimacsError → Type 0
Refused judge before text e = (fault_so_far judge text ≡ Some e) ⊎ IsMemory judge before (ended text) e

-- The reader has read this text, or refuses it.
abbrev pub Fed : {T U : Type 0} → Judge → (T → List (List ℕ) → Type 0) → List (List ℕ) → List ℕ → Result U DimacsError → Feeder T → Type 0
Fed judge After before text (Ok u) new = IsBehind judge After text new
Fed judge After before text (Err e) new = (new.spent ≡ Some e) × Refused judge before text e

-- This is what the taker answers when the lines end: what is missing; otherwise the value, and it begins again.
abbrev pub Ends : {T V : Type 0} → Judge → (T → List (List ℕ) → Type 0) → (List (List ℕ) → V → Type 0) → List (List ℕ) → Result V Kind → T → Type 0
Ends judge After Spelled all (Ok value) new = (judge.missing all ≡ None) × Spelled all value × After new []
Ends judge After Spelled all (Err kind) new = judge.missing all ≡ Some kind

-- These are the lines taken from a whole text: a line without its LF is taken only if it needs none.
abbrev pub lines_taken : (needs_lf : Bool) → List ℕ → List (List ℕ)
lines_taken false text = lines text
lines_taken true text = ended text

-- The fault is one of the whole text, or there was no memory for the value of its last line.
abbrev pub IsToldOf : Judge → List ℕ → DimacsError → Type 0
IsToldOf judge text e = (fault_at_end judge text ≡ Some e) ⊎ IsMemory judge (ended text) (lines_taken judge.needs_lf text) e

-- This is the answer when the text ends; only a last line without its LF is taken then. A reader that gave its value
-- begins again.
abbrev pub Finished : {T V : Type 0} → Judge → (T → List (List ℕ) → Type 0) → (List (List ℕ) → V → Type 0) → List ℕ → Result V DimacsError → Feeder T → Type 0
Finished judge After Spelled text (Ok value) new = (fault_at_end judge text ≡ None) × Spelled (lines text) value × IsBehind judge After [] new
Finished judge After Spelled text (Err e) new = (new.spent ≡ Some e) × IsToldOf judge text e

-- All lines of the text were taken, including the last one, which has its LF if it needs one.
pub record IsClosed {T : Type 0} (judge : Judge) (After : T → List (List ℕ) → Type 0) (text : List ℕ) (reader : Feeder T) : Type 0 where
  pub going : reader.spent ≡ None
  pub clean : first_fault judge (lines text) ≡ None
  pub room : reader.room ≡ []
  pub ends : reader.ends ≡ length (lines text)
  pub taken : After reader.taker (lines text)
  pub whole : judge.needs_lf ≡ true → rest text ≡ []

-- All lines of the text were taken, or the reader refuses the text.
abbrev pub Closed : {T U : Type 0} → Judge → (T → List (List ℕ) → Type 0) → List ℕ → Result U DimacsError → Feeder T → Type 0
Closed judge After text (Ok u) new = IsClosed judge After text new
Closed judge After text (Err e) new = (new.spent ≡ Some e) × IsToldOf judge text e

-- A text has at most 2^62 bytes. The definitions below give a reader's result and its state afterwards, whatever text
-- it has read before.

-- The reader reads these bytes, or refuses the text.
abbrev pub Reads : {T U : Type 0} → Judge → (T → List (List ℕ) → Type 0) → (bytes : List ℕ) → Feeder T → Result U DimacsError → Feeder T → Type 0
Reads judge After bytes old result new = (text : List ℕ) → length (text ++ bytes) ≤ 2 ^ 62 → IsBehind judge After text old → Fed judge After (ended text) (text ++ bytes) result new

-- The reader reads these bytes of a line that may be there. None of them is an LF.
abbrev pub ReadsPart : {T U : Type 0} → Judge → (T → List (List ℕ) → Type 0) → (bytes : List ℕ) → Feeder T → Result U DimacsError → Feeder T → Type 0
ReadsPart judge After bytes old result new =
    (text : List ℕ) → length (text ++ bytes) ≤ 2 ^ 62 → judge.closed (ended text) ≡ false → HasNoLf bytes → IsBehind judge After text old → Fed judge After (ended text) (text ++ bytes) result new

-- The reader reads these bytes, the last ones of a line that may be there, and then its LF.
abbrev pub ReadsRest : {T U : Type 0} → Judge → (T → List (List ℕ) → Type 0) → (bytes : List ℕ) → Feeder T → Result U DimacsError → Feeder T → Type 0
ReadsRest judge After bytes old result new =
    (text : List ℕ) → length (text ++ bytes) ≤ 2 ^ 62 → judge.closed (ended text) ≡ false → HasNoLf bytes → IsBehind judge After text old → Fed judge After (ended text) (text ++ bytes ++ 10 ∷ []) result new

-- The reader reads the LF of a line that may be there.
abbrev pub ReadsLf : {T U : Type 0} → Judge → (T → List (List ℕ) → Type 0) → Feeder T → Result U DimacsError → Feeder T → Type 0
ReadsLf judge After old result new =
    (text : List ℕ) → length text ≤ 2 ^ 62 → judge.closed (ended text) ≡ false → IsBehind judge After text old → Fed judge After (ended text) (text ++ 10 ∷ []) result new

-- The reader has read some of these bytes, and the others are left.
pub record HasReadSome {T : Type 0} (judge : Judge) (After : T → List (List ℕ) → Type 0) (bytes left : List ℕ) (old new : Feeder T) : Type 0 where
  pub front : List ℕ
  pub parts : bytes ≡ front ++ left
  pub some : 0 < length front
  pub read : (text : List ℕ) → length (text ++ bytes) ≤ 2 ^ 62 → IsBehind judge After text old → IsBehind judge After (text ++ front) new

-- The reader refuses, because of these bytes, the text to which they belong.
abbrev pub Refuses : {T : Type 0} → Judge → (T → List (List ℕ) → Type 0) → (bytes : List ℕ) → Feeder T → DimacsError → Feeder T → Type 0
Refuses judge After bytes old e new = (text : List ℕ) → length (text ++ bytes) ≤ 2 ^ 62 → IsBehind judge After text old → (new.spent ≡ Some e) × Refused judge (ended text) (text ++ bytes) e

-- The text ends, and the reader takes its last line.
abbrev pub Closes : {T U : Type 0} → Judge → (T → List (List ℕ) → Type 0) → Feeder T → Result U DimacsError → Feeder T → Type 0
Closes judge After old result new = (text : List ℕ) → length text ≤ 2 ^ 62 → IsBehind judge After text old → Closed judge After text result new

-- The text ends, and the reader gives its value, or refuses it.
abbrev pub Finishes : {T V : Type 0} → Judge → (T → List (List ℕ) → Type 0) → (List (List ℕ) → V → Type 0) → Feeder T → Result V DimacsError → Feeder T → Type 0
Finishes judge After Spelled old result new = (text : List ℕ) → length text ≤ 2 ^ 62 → IsBehind judge After text old → Finished judge After Spelled text result new

-- The device fails, and the reader refuses the text.
abbrev pub Fails : {T : Type 0} → Judge → (T → List (List ℕ) → Type 0) → Feeder T → DimacsError → Feeder T → Type 0
Fails judge After old e new = (text : List ℕ) → length text ≤ 2 ^ 62 → IsBehind judge After text old → (fault_at_failure judge text ≡ Some e) × (new.spent ≡ Some e)
