-- The taker of a file's lines, the reader of its text, and their results.
use Rattle.std.specs.Prelude.{◌≡◌, ℕ, ◌⊎◌, Bool, true, List, [], ◌++◌, Option, Some, Result, Ok, Err}
use Rattle.sp_text.specs.declared.faults.DimacsError.{DimacsError}
use Rattle.sp_text.specs.Lines.{ended}
use Rattle.sp_text.specs.First.{Judge, fault_at_failure, fault_at_end}
use Rattle.sp_text.specs.Feeding.{IsBehind, Fed, Refused}
use Rattle.sp_files.specs.declared.taking.Spelled.TheVariants.{Whole}
use Rattle.sp_files.specs.declared.taking.FileLines.{FileLines}
use Rattle.sp_files.specs.declared.reading.FileReader.{FileReader}
use Rattle.sp_files.specs.Spelling.{spelling_state, judge}
use Rattle.sp_files.specs.Taking.{FileForm, content_text, IsContent, spelled_by, Holds}

-- The taker has taken these lines.
abbrev pub HasTaken : {V : Type 0} {P : ℕ} → FileForm V → FileLines V P → List (List ℕ) → Type 0
HasTaken {P} form lines before = (spelled_by form lines.spelled ≡ spelling_state before) × Holds P form.begins (spelling_state before)

-- The lines spell this value.
abbrev pub Spells : {V : Type 0} → FileForm V → List (List ℕ) → V → Type 0
Spells form all value = spelling_state all ≡ Whole (form.content value)

-- The reader has read this text, in which there is no fault yet.
abbrev pub IsBehindFile : {V : Type 0} {P : ℕ} → FileForm V → List ℕ → FileReader V P → Type 0
IsBehindFile {P} form text reader = IsBehind (judge P form.begins) (HasTaken form) text reader.feeder

-- The reader has refused its text with this fault.
abbrev pub IsSpentFile : {V : Type 0} {P : ℕ} → DimacsError → FileReader V P → Type 0
IsSpentFile e reader = reader.feeder.spent ≡ Some e

-- This is the result for one more piece of a text: the reader has read it too, or is spent because of the text's first fault. If
-- there is no memory for a row, the line of that row ends in this piece.
abbrev pub FileFed : {V U : Type 0} {P : ℕ} → FileForm V → (text piece : List ℕ) → Result U DimacsError → FileReader V P → Type 0
FileFed {P} form text piece result new = Fed (judge P form.begins) (HasTaken form) (ended text) (text ++ piece) result new.feeder

-- This is the result when the text ends: the value with this text, and a reader that has read no text; or its first fault.
abbrev pub FileFinished : {V : Type 0} {P : ℕ} → FileForm V → List ℕ → Result V DimacsError → FileReader V P → Type 0
FileFinished {P} form text (Ok value) new = (text ≡ content_text (form.content value)) × IsContent P (form.content value) × IsBehindFile form [] new
FileFinished {P} form text (Err e) new = IsSpentFile e new × (fault_at_end (judge P form.begins) text ≡ Some e)

-- The beginning of a text that was read shows this fault; or it is all of the text, and has the fault; or the device has failed
-- after it.
abbrev pub ReadFault : Judge → List ℕ → Option (List ℕ) → Bool → DimacsError → Type 0
ReadFault judge text left has_failed e = (front more : List ℕ) × (text ≡ front ++ more) × (left ≡ Some more) ×
    (Refused judge [] front e ⊎ ((more ≡ []) × (fault_at_end judge text ≡ Some e)) ⊎ ((has_failed ≡ true) × (fault_at_failure judge front ≡ Some e)))

-- This is the result for the whole text of a device. All of it was read, and it is the text of the value; or a beginning was read
-- and shows the fault, or it is all of the text and has the fault, or the device has failed.
abbrev pub ReadAs : {V : Type 0} → Judge → (V → List ℕ) → List ℕ → Option (List ℕ) → Bool → Result V DimacsError → Type 0
ReadAs judge text_of text left has_failed (Ok value) = (left ≡ Some []) × (text ≡ text_of value)
ReadAs judge text_of text left has_failed (Err e) = ReadFault judge text left has_failed e

-- This is the result for the whole text of a device that may hold such a value.
abbrev pub FileRead : {V : Type 0} → (P : ℕ) → FileForm V → List ℕ → Option (List ℕ) → Bool → Result V DimacsError → Type 0
FileRead P form text left has_failed result = ReadAs (judge P form.begins) (λ value. content_text (form.content value)) text left has_failed result
