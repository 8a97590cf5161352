-- The position of a reader that is fed in pieces.
use Rattle.std.specs.Prelude.{◌≡◌, ℕ, List, ◌++◌, Some, Result}
use Rattle.sp_text.specs.declared.faults.DimacsError.{DimacsError}
use Rattle.sp_text.specs.Lines.{ended}
use Rattle.sp_text.specs.First.{Judge}
use Rattle.sp_text.specs.Feeding.{IsBehind, Fed, Finished}
use Rattle.sp_dimacs.specs.declared.readers.TextReader.{TextReader}

-- The reader has read this text, in which there is no fault yet.
abbrev pub IsBehindText : {T : Type 0} → Judge → (T → List (List ℕ) → Type 0) → List ℕ → TextReader T → Type 0
IsBehindText rules After text reader = IsBehind rules After text reader.feeder

-- The reader has refused its text with this fault.
abbrev pub IsSpent : {T : Type 0} → DimacsError → TextReader T → Type 0
IsSpent e reader = reader.feeder.spent ≡ Some e

-- This is the result for the next piece of a text: the reader has read it too, or is spent because of the text's first fault.
-- If there is no memory for the value of an item line, that line ends in this piece.
abbrev pub FedText : {T U : Type 0} → Judge → (T → List (List ℕ) → Type 0) → (text piece : List ℕ) → Result U DimacsError → TextReader T → Type 0
FedText rules After text piece result new = Fed rules After (ended text) (text ++ piece) result new.feeder

-- This is the result when the text ends: the value of its lines, with a reader that has read no text, or its first fault.
abbrev pub FinishedText : {T V : Type 0} → Judge → (T → List (List ℕ) → Type 0) → (List (List ℕ) → V → Type 0) → List ℕ → Result V DimacsError → TextReader T → Type 0
FinishedText rules After Spelled text result new = Finished rules After Spelled text result new.feeder
