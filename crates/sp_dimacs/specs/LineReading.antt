-- How the next line of a text is read.
use Rattle.std.specs.Prelude.{◌≡◌, ℕ, ◌<◌, ◌≤◌, ◌⊎◌, Bool, true, false, List, [], ◌∷◌, ◌++◌, length, Result, Ok, Err}
use Rattle.std.specs.Io.KnownBytes.{Consumes, IsAtEnd}
use Rattle.sp_device.specs.declared.devices.Read.{Ghosts as Reader}
use Rattle.sp_text.specs.declared.faults.Kind.{Kind}
use Rattle.sp_text.specs.declared.faults.Kind.TheVariants.{LongLine, Read}
use Rattle.sp_text.specs.declared.rooms.TheConstants.{LONGEST_LINE}
use Rattle.sp_text.specs.Meaning.{HasNoLf}

-- A line of which `old` has come continues with the bytes that wait, up to an LF, or with all of them. `line` is then
-- the part that has come, and `after` waits.
abbrev pub RunTaken : (waits old : List ℕ) → Result Bool Kind → (after line : List ℕ) → Type 0
RunTaken waits old (Ok true) after line = (run : List ℕ) × HasNoLf run × (waits ≡ run ++ 10 ∷ after) × (line ≡ old ++ run)
RunTaken waits old (Ok false) after line = HasNoLf waits × (after ≡ []) × (line ≡ old ++ waits)
RunTaken waits old (Err kind) after line = (kind ≡ LongLine) × (run more : List ℕ) × HasNoLf run × (waits ≡ run ++ more) × (LONGEST_LINE < length (old ++ run))

-- A line was read from these bytes, which came.
abbrev pub LineOf : {R : Type 0} → Reader R → R → (came : List ℕ) → Result Bool Kind → (after line : List ℕ) → Type 0
LineOf r reader came (Ok true) after line = HasNoLf line × (came ≡ line ++ 10 ∷ after)
LineOf r reader came (Ok false) after line = HasNoLf line × (came ≡ line) × (after ≡ []) × IsAtEnd (r.left reader)
LineOf r reader came (Err kind) after line =
    ((kind ≡ LongLine) × (long more : List ℕ) × HasNoLf long × (came ≡ long ++ more) × (LONGEST_LINE < length long))
    ⊎ ((kind ≡ Read) × HasNoLf came × (length came ≤ LONGEST_LINE) × (r.has_failed reader ≡ true))

-- A line was read: some of its bytes were waiting, and the others came from the device.
abbrev pub LineRead : {R : Type 0} → Reader R → (old new : R) → (waits : List ℕ) → Result Bool Kind → (after line : List ℕ) → Type 0
LineRead r old new waits result after line = (more : List ℕ) × Consumes (r.left old) (r.left new) more × LineOf r new (waits ++ more) result after line
