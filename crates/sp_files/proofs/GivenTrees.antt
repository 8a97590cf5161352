-- How a tree is given.
use Rattle.std.proofs.Common.{◌≡◌, ◌≢◌, ℕ, ◌≤◌, ◌^◌, Bool, false, not, List, [], length, Option, Result, Ok, Err, inl, inr}
use Rattle.std.specs.Prelude.{IfErr}
use Rattle.sp_device.specs.declared.devices.Read.{Ghosts as Reader}
use Rattle.sp_text.specs.declared.faults.Kind.TheVariants.{Memory, Read}
use Rattle.sp_text.specs.declared.faults.DimacsError.{DimacsError}
use Rattle.sp_text.specs.Lines.{ended}
use Rattle.sp_text.specs.First.{Judge}
use Rattle.sp_text.specs.Feeding.{IsMemory}
use Rattle.sp_text.proofs.Silent.{early_silent, told_silent}
use Rattle.sp_answer.specs.Table.{TreeTable}
use Rattle.sp_files.specs.declared.reading.FileReader.{FileReader}
use Rattle.sp_files.specs.Taking.{tree_form}
use Rattle.sp_files.specs.Reading.{IsBehindFile, FileFinished}
use Rattle.sp_files.specs.Spelling.{tree_judge}
use Rattle.sp_files.specs.Silence.{silent}
use Rattle.sp_files.specs.Stream.{Stream, left_in, IsFaultOf, BlockFed, BlockRead}

-- A block was fed, and its text has ended.
pub block_read : {P : ℕ} {R U : Type 0} (r : Reader R) (old new : Stream R) (u : U) (tree again : FileReader TreeTable P) (result : Result TreeTable DimacsError)
    → BlockFed r old (Ok u) new tree
    → ((text : List ℕ) → length text ≤ 2 ^ 62 → IsBehindFile tree_form text tree → FileFinished tree_form text result again)
    → BlockRead P r old result new
block_read r old new u tree again (Ok t) (front, within, came, whole, small, short, behind) finished =
    let end = finished front small behind in
    (end.1, short, rw end.0 at came)
block_read r old new u tree again (Err e) (front, within, came, whole, small, short, behind) finished =
    let end = finished front small behind in
    (front, within, came, inr (inl (whole, end.1)))

memory_silent : (judge : Judge) (before all : List (List ℕ)) (e : DimacsError) → IsMemory judge before all e → e.kind ≢ Read
memory_silent judge before all e h is = let k : e.kind ≡ Memory = h.kind in cc

-- The fault Read is told of a block only where the device has failed.
fault_told : (P : ℕ) (front : List ℕ) (left : Option (List ℕ)) (has_failed : Bool) (e : DimacsError) → has_failed ≡ false → IsFaultOf P front left has_failed e → e.kind ≢ Read
fault_told P front left has_failed e going (inl (inl is)) read = early_silent (tree_judge P) (silent P not) front e is read
fault_told P front left has_failed e going (inl (inr memory)) read = memory_silent (tree_judge P) [] (ended front) e memory read
fault_told P front left has_failed e going (inr (inl (end, is))) read = told_silent (tree_judge P) (silent P not) front e is read
fault_told P front left has_failed e going (inr (inr (failed, is))) read = cc

-- A block that was read of a device that hasn't failed doesn't have the fault Read.
pub read_never : {R : Type 0} (P : ℕ) (r : Reader R) (old : Stream R) (result : Result TreeTable DimacsError) (new : Stream R)
    → r.has_failed new.reader ≡ false → BlockRead P r old result new → IfErr result (λ e. e.kind ≢ Read)
read_never P r old (Ok tree) new going h = tt
read_never P r old (Err e) new going (front, within, came, is) = fault_told P front (left_in r new) (r.has_failed new.reader) e going is
