-- The bytes of a device, block by block.
use Rattle.std.specs.Prelude.{◌≡◌, ℕ, ◌^◌, ◌<◌, ◌≤◌, ◌⊎◌, Bool, true, false, List, [], length, Option, Some, Result, Ok, Err}
use Rattle.std.specs.Io.KnownBytes.{Consumes, IsAtEnd, prepend_known}
use Rattle.sp_device.specs.declared.devices.Read.{Ghosts as Reader}
use Rattle.sp_text.specs.declared.faults.DimacsError.{DimacsError}
use Rattle.sp_text.specs.First.{fault_at_failure, fault_at_end}
use Rattle.sp_text.specs.Feeding.{Refused}
use Rattle.sp_answer.specs.Table.{TreeTable, IsTable}
use Rattle.sp_files.specs.TreeText.{tree_text}
use Rattle.sp_files.specs.Spelling.{tree_judge}
use Rattle.sp_files.specs.Taking.{tree_form}
use Rattle.sp_files.specs.declared.reading.FileReader.{FileReader}
use Rattle.sp_files.specs.Reading.{IsBehindFile}
use Rattle.sp_files.specs.Block.{IsWithinBlock, IsBlock}

-- A device, and those of its bytes that wait to be read.
pub record Stream (R : Type 0) : Type 0 where
  pub reader : R
  pub piece : List ℕ

-- This is the stream of a device, with these bytes waiting.
abbrev pub stream : {R : Type 0} → List ℕ → R → Stream R
stream piece reader = record { reader = reader; piece = piece }

-- These are the bytes that are left, if they are known: those that wait, and those that the device still has.
abbrev pub left_in : {R : Type 0} → Reader R → Stream R → Option (List ℕ)
left_in r stream = prepend_known stream.piece (r.left stream.reader)

-- The bytes that wait have passed the device, which passes at most 2^62 bytes.
pub record IsShort {R : Type 0} (r : Reader R) (stream : Stream R) : Type 0 where
  pub counted : length stream.piece ≤ r.passed stream.reader
  pub limit : 0 < length stream.piece → r.passed stream.reader ≤ 2 ^ 62

-- A beginning of the block shows this fault; or it is all of the block or of the text, and has it; or the device has failed
-- after it.
abbrev pub IsFaultOf : (P : ℕ) → (front : List ℕ) → (left : Option (List ℕ)) → (has_failed : Bool) → DimacsError → Type 0
IsFaultOf P front left has_failed e =
    Refused (tree_judge P) [] front e ⊎ ((IsBlock front ⊎ IsAtEnd left) × (fault_at_end (tree_judge P) front ≡ Some e)) ⊎ ((has_failed ≡ true) × (fault_at_failure (tree_judge P) front ≡ Some e))

-- The next block has this fault, at this line of the block.
abbrev pub BlockRefused : {R : Type 0} → (P : ℕ) → Reader R → Stream R → Stream R → DimacsError → Type 0
BlockRefused P r old new e =
    (front : List ℕ) × IsWithinBlock front × Consumes (left_in r old) (left_in r new) front × IsFaultOf P front (left_in r new) (r.has_failed new.reader) e

-- The bytes of one block were fed, or all that were left; or the fault of the block was found.
abbrev pub BlockFed : {P : ℕ} {R U : Type 0} → Reader R → Stream R → Result U DimacsError → Stream R → FileReader TreeTable P → Type 0
BlockFed r old (Ok u) new tree =
    (front : List ℕ) × IsWithinBlock front × Consumes (left_in r old) (left_in r new) front × (IsBlock front ⊎ IsAtEnd (left_in r new)) × (length front ≤ 2 ^ 62) × IsShort r new × IsBehindFile tree_form front tree
BlockFed {P} r old (Err e) new tree = BlockRefused P r old new e

-- A tree was read, or the fault of the block was found.
abbrev pub BlockRead : {R : Type 0} → (P : ℕ) → Reader R → Stream R → Result TreeTable DimacsError → Stream R → Type 0
BlockRead P r old (Ok tree) new = IsTable P tree × IsShort r new × Consumes (left_in r old) (left_in r new) (tree_text tree)
BlockRead P r old (Err e) new = BlockRefused P r old new e

-- No byte is left; or one is; or the device has failed.
abbrev pub IsLookedAt : {R E : Type 0} → Reader R → Stream R → Result Bool E → Stream R → Type 0
IsLookedAt r old (Ok true) new =
    IsShort r new × Consumes (left_in r old) (left_in r new) [] × IsAtEnd (left_in r new)
IsLookedAt r old (Ok false) new =
    IsShort r new × Consumes (left_in r old) (left_in r new) [] × (left_in r old ≡ Some [] → ⊥)
IsLookedAt r old (Err e) new =
    Consumes (left_in r old) (left_in r new) [] × (r.has_failed new.reader ≡ true)
