-- The position of a reader of lines in its text.
use Rattle.std.specs.Prelude.{◌≡◌, ℕ, ◌+◌, ◌-◌, ◌^◌, ◌<◌, ◌≤◌, ◌⊎◌, min, slice_get, Bool, true, false, List, [], ◌∷◌, ◌++◌, length, Option, Some, None, Result, Ok, Err}
use Rattle.std.specs.Borrow.{Bor}
use Rattle.std.specs.Io.KnownBytes.{Consumes, IsAtEnd}
use Rattle.sp_device.specs.declared.devices.Read.{Ghosts as Reader}
use Rattle.sp_text.specs.declared.faults.Kind.{Kind}
use Rattle.sp_text.specs.declared.faults.Kind.TheVariants.{LongLine, Read}
use Rattle.sp_text.specs.declared.rooms.TheConstants.{LONGEST_LINE}
use Rattle.sp_text.specs.declared.faults.DimacsError.{DimacsError}
use Rattle.sp_text.specs.Lines.{ended, rest, lines}
use Rattle.sp_dimacs.specs.declared.lines.Lines.{Lines}
use Rattle.sp_dimacs.specs.declared.lines.State.{State}
use Rattle.sp_dimacs.specs.declared.lines.State.TheVariants.{Going, Over, Refused}

-- `start` holds the bytes that the device had before the first line, if they are known, and `r.left` holds those that
-- it still has.

-- These lines came, each with its LF. After them came some bytes that still wait.
pub record AreEnded {R : Type 0} (r : Reader R) (start : Option (List ℕ)) (given : List (List ℕ)) (reader : Lines R) : Type 0 where
  pub behind : List ℕ
  pub came : Consumes start (r.left reader.reader) (behind ++ reader.piece)
  pub ended : ended behind ≡ given
  pub whole : rest behind ≡ []

-- The text has ended: these lines came, each with its LF, and then this last line without one.
pub record IsLast {R : Type 0} (r : Reader R) (start : Option (List ℕ)) (given : List (List ℕ)) (line : List ℕ) (reader : Lines R) : Type 0 where
  pub text : List ℕ
  pub came : Consumes start (r.left reader.reader) text
  pub all : IsAtEnd (r.left reader.reader)
  pub ended : ended text ≡ given
  pub open_line : rest text ≡ line

-- The text has ended, and these are its lines.
pub record AreAll {R : Type 0} (r : Reader R) (start : Option (List ℕ)) (given : List (List ℕ)) (reader : Lines R) : Type 0 where
  pub text : List ℕ
  pub came : Consumes start (r.left reader.reader) text
  pub all : IsAtEnd (r.left reader.reader)
  pub lines : lines text ≡ given

-- The reader has given these lines: more may come, or the text has ended.
abbrev pub Stands : {R : Type 0} → Reader R → Option (List ℕ) → List (List ℕ) → Lines R → State → Type 0
Stands r start given reader Going = AreEnded r start given reader
Stands r start given reader Over = AreAll r start given reader
Stands r start given reader (Refused e) = ⊥

-- The reader has given these lines, which are the first of the text, and no others.
pub record IsBehindLines {R : Type 0} (r : Reader R) (start : Option (List ℕ)) (given : List (List ℕ)) (reader : Lines R) : Type 0 where
  pub number : reader.number ≡ min (length given) (2 ^ 64 - 1)
  pub stands : Stands r start given reader reader.state

-- This is the next line of the text. It has its LF; or it has none, and the text has ended.
abbrev pub IsNext : {R : Type 0} → Reader R → Option (List ℕ) → List (List ℕ) → List ℕ → Lines R → (has_end : Bool) → Type 0
IsNext r start given line reader true = AreEnded r start (given ++ line ∷ []) reader
IsNext r start given line reader false = IsLast r start given line reader × (0 < length line)

-- After the given lines, the part of the next line that came is too long; or it isn't, and the device has failed.
pub record IsRefused {R : Type 0} (r : Reader R) (start : Option (List ℕ)) (given : List (List ℕ)) (kind : Kind) (reader : Lines R) : Type 0 where
  pub front : List ℕ
  pub more : List ℕ
  pub came : Consumes start (r.left reader.reader) (front ++ more)
  pub ended : ended front ≡ given
  pub why : ((kind ≡ LongLine) × (LONGEST_LINE < length (rest front))) ⊎ ((kind ≡ Read) × (length (rest front) ≤ LONGEST_LINE) × (more ≡ []) × (r.has_failed reader.reader ≡ true))

-- The last line given had its LF.
abbrev pub had_lf : {R : Type 0} → Lines R → Bool
had_lf reader = reader.has_end

-- The next line of the text is this one, or there is none, or this is its fault.
abbrev pub Gave : {R : Type 0} → Reader R → Option (List ℕ) → List (List ℕ) → List ℕ → Result Bool DimacsError → Lines R → Type 0
Gave r start given line (Ok true) new = IsBehindLines r start (given ++ line ∷ []) new × IsNext r start given line new (had_lf new) × (length line ≤ LONGEST_LINE)
Gave r start given line (Ok false) new = IsBehindLines r start given new × AreAll r start given new
Gave r start given line (Err e) new = (new.state ≡ Refused e) × (e.line ≡ min (length given + 1) (2 ^ 64 - 1)) × IsRefused r start given e.kind new

-- The line in the buffer is the next one. Without its LF it is the last; and without a byte it is no line.
abbrev pub Counted : {R : Type 0} → Lines R → (has_end : Bool) → (is_line : Bool) → Lines R → Type 0
Counted old true false new = ⊥
Counted old true true new = new ≡ record old { has_end = true; number = min (old.number + 1) (2 ^ 64 - 1) }
Counted old false true new = (0 < length old.room) × (new ≡ record old { has_end = false; number = min (old.number + 1) (2 ^ 64 - 1); state = Over })
Counted old false false new = (old.room ≡ []) × (new ≡ record old { state = Over })

-- The reader has refused its text with this fault.
abbrev pub IsRefusedAs : {R : Type 0} → DimacsError → Lines R → Type 0
IsRefusedAs e reader = reader.state ≡ Refused e

-- A reader that has refused its text with some fault still refuses it with that fault.
abbrev pub IsStillRefused : {R : Type 0} → Lines R → Lines R → Type 0
IsStillRefused old new = (e : DimacsError) → IsRefusedAs e old → IsRefusedAs e new

-- This is the result with the line that is lent.
abbrev pub GaveNext : {R : Type 0} → Reader R → Option (List ℕ) → List (List ℕ) → Result (Option (Bor (List ℕ))) DimacsError → Lines R → Type 0
GaveNext r start given (Ok (Some line)) new = Gave r start given line.now (Ok true) new
GaveNext r start given (Ok None) new = Gave r start given [] (Ok false) new
GaveNext r start given (Err e) new = Gave r start given [] (Err e) new

-- This is the reader after the call: a reader that has refused its text stays refused, and one that has given some lines
-- has given the next line.
abbrev pub Gives : {R : Type 0} → Reader R → Lines R → Result (Option (Bor (List ℕ))) DimacsError → Lines R → Type 0
Gives r old result new = IsStillRefused old new ×
    ((start : Option (List ℕ)) (given : List (List ℕ)) → IsBehindLines r start given old → GaveNext r start given result new)

-- The next line of the text is too long, or the device has failed.
abbrev pub IsFaulty : (text : List ℕ) → (given : List (List ℕ)) → Kind → Type 0
IsFaulty text given kind = ((kind ≡ LongLine) × (long : List ℕ) × (slice_get (lines text) (length given) ≡ Some long) × (LONGEST_LINE < length long)) ⊎ (kind ≡ Read)

-- The fault is that of the line after the given ones.
abbrev pub IsFaultOf : (text : List ℕ) → (given : List (List ℕ)) → DimacsError → Type 0
IsFaultOf text given e = (e.line ≡ min (length given + 1) (2 ^ 64 - 1)) × IsFaulty text given e.kind

-- The line after the given ones is this line of the text; or the given ones are all its lines.
abbrev pub GaveOf : (text : List ℕ) → (given : List (List ℕ)) → Result (Option (Bor (List ℕ))) DimacsError → Type 0
GaveOf text given (Ok (Some line)) = (slice_get (lines text) (length given) ≡ Some line.now) × (length line.now ≤ LONGEST_LINE)
GaveOf text given (Ok None) = lines text ≡ given
GaveOf text given (Err e) = IsFaultOf text given e
