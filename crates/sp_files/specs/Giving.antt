-- The state of a reader of blocks, and what it returns.
use Rattle.std.specs.Prelude.{◌≡◌, ℕ, ◌+◌, ◌-◌, ◌^◌, ◌<◌, min, true, List, [], Option, Some, None, Result, Ok, Err}
use Rattle.std.specs.Io.KnownBytes.{Consumes, IsAtEnd}
use Rattle.sp_device.specs.declared.devices.Read.{Ghosts as Reader}
use Rattle.sp_text.specs.declared.faults.DimacsError.{DimacsError}
use Rattle.sp_answer.specs.Table.{TreeTable, IsTable}
use Rattle.sp_files.specs.TreeText.{tree_text}
use Rattle.sp_files.specs.declared.trees.blocks.TreeBlocks.{TreeBlocks}
use Rattle.sp_files.specs.Block.{lines_in}
use Rattle.sp_files.specs.Stream.{stream, left_in, IsShort, BlockRefused}

-- These are the bytes that are left, if they are known.
abbrev pub left_of : {P : ℕ} {R : Type 0} → Reader R → TreeBlocks P → R → Option (List ℕ)
left_of r blocks reader = left_in r (stream blocks.piece reader)

-- No tree was returned yet, and no byte waits.
pub record IsFresh {P : ℕ} (blocks : TreeBlocks P) : Type 0 where
  pub piece : blocks.piece ≡ []
  pub lines : blocks.lines ≡ 0
  pub spent : blocks.spent ≡ None

-- No fault was found yet.
abbrev pub IsGoing : {P : ℕ} {R : Type 0} → Reader R → TreeBlocks P → R → Type 0
IsGoing r blocks reader = (blocks.spent ≡ None) × IsShort r (stream blocks.piece reader)

-- The reader has refused its text with this fault.
abbrev pub IsSpent : {P : ℕ} → DimacsError → TreeBlocks P → Type 0
IsSpent e blocks = blocks.spent ≡ Some e

-- This is the number of lines of the trees returned so far; it stops at 2^64 - 1.
abbrev pub lines_before : {P : ℕ} → TreeBlocks P → ℕ
lines_before blocks = blocks.lines

-- This is a fault at its line of the file, given the number of lines before its block.
abbrev pub in_file : ℕ → DimacsError → DimacsError
in_file lines e = record { line = min (lines + e.line) (2 ^ 64 - 1); kind = e.kind }

-- If a tree was returned before, a byte is left or the device has failed: the end after a tree is no fault.
abbrev pub HasBegun : {P : ℕ} {R : Type 0} → Reader R → TreeBlocks P → R → R → Type 0
HasBegun r old before after = 0 < lines_before old → left_of r old before ≡ Some [] → r.has_failed after ≡ true

-- The text of the next tree was read; or none is left, and a tree was returned before; or this is the fault of the next block,
-- at its line of the file.
abbrev pub Gives : {P : ℕ} {R : Type 0} → Reader R → TreeBlocks P → R → Result (Option TreeTable) DimacsError → TreeBlocks P → R → Type 0
Gives {P} r old before (Ok (Some tree)) new after =
    IsTable P tree × IsGoing r new after × Consumes (left_of r old before) (left_of r new after) (tree_text tree) × (lines_before new ≡ min (lines_before old + lines_in tree) (2 ^ 64 - 1))
Gives r old before (Ok None) new after =
    (0 < lines_before old) × IsAtEnd (left_of r new after) × IsGoing r new after × Consumes (left_of r old before) (left_of r new after) [] × (lines_before new ≡ lines_before old)
Gives {P} r old before (Err e) new after =
    IsSpent e new × HasBegun r old before after × (fault : DimacsError) × (e ≡ in_file (lines_before old) fault) × BlockRefused P r (stream old.piece before) (stream new.piece after) fault
