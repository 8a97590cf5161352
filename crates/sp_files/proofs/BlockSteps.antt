-- How a block is fed, piece after piece.
use Rattle.std.proofs.Common.{◌≡◌, ◌≢◌, ℕ, zero, suc, ◌+◌, ◌≤◌, ◌<◌, ◌^◌, true, List, [], ◌++◌, length, length-append, take, drop, take-append-drop, Some, Ok, ap, inl, inr, arith}
use Rattle.std.proofs.lemmas.List.{length-take-le}
use Rattle.std.proofs.KnownBytes.{Consumes-trans}
use Rattle.std.specs.Io.KnownBytes.{Consumes, Keeps, IsAtEnd, prepend_known}
use Rattle.sp_device.specs.declared.devices.Read.{Ghosts as Reader}
use Rattle.sp_text.specs.declared.faults.DimacsError.{DimacsError}
use Rattle.sp_text.specs.First.{fault_at_failure}
use Rattle.sp_text.specs.Feeding.{Refused}
use Rattle.sp_answer.specs.Table.{TreeTable}
use Rattle.sp_files.specs.Spelling.{tree_judge}
use Rattle.sp_files.specs.declared.reading.FileReader.{FileReader}
use Rattle.sp_files.specs.Taking.{tree_form}
use Rattle.sp_files.specs.Reading.{IsBehindFile}
use Rattle.sp_files.specs.declared.trees.block_state.BlockState.{BlockState}
use Rattle.sp_files.specs.declared.trees.block_state.BlockState.TheVariants.{Fresh, Over}
use Rattle.sp_files.specs.Block.{Runs}
use Rattle.sp_files.specs.Stream.{Stream, left_in, IsShort, BlockFed, BlockRefused}
use Rattle.sp_files.proofs.BlockStates.{runs_both}
use Rattle.sp_files.proofs.LeftBytes.{taken, refilled, kept, at_end, and_nothing}

-- These bytes of a block came since `old`.
pub record IsFed {R : Type 0} (r : Reader R) (old : Stream R) (front : List ℕ) (state : BlockState) (new : Stream R) : Type 0 where
  pub runs : Runs Fresh front state
  pub came : Consumes (left_in r old) (left_in r new) front
  pub small : length front ≤ 2 ^ 62
  pub counted : length front + length new.piece ≤ r.passed new.reader
  pub short : IsShort r new

-- They were fed, and more may follow.
abbrev pub IsFeeding : {P : ℕ} {R : Type 0} → Reader R → Stream R → BlockState → Stream R → FileReader TreeTable P → Type 0
IsFeeding r old state new tree = (front : List ℕ) × IsFed r old front state new × (state ≢ Over) × IsBehindFile tree_form front tree

small_run : (most front n all passed : ℕ) → front ≤ most → n ≤ all → front + all ≤ passed → (0 < all → passed ≤ most) → front + n ≤ most
small_run most front n zero passed small within counted limit = omega (arith, small, within)
small_run most front n (suc all) passed small within counted limit =
    let bound = limit (omega arith) in
    omega (arith, within, counted, bound)

small_drop : (most n all rest passed : ℕ) → rest + n ≡ all → (0 < all → passed ≤ most) → 0 < rest → passed ≤ most
small_drop most n all rest passed parts limit some = limit (omega (arith, parts, some))

-- The first bytes that wait were taken.
pub run_fed : {R : Type 0} {r : Reader R} {old now : Stream R} {front : List ℕ} {state : BlockState} (new : Stream R) (end : BlockState) (n : ℕ)
    → IsFed r old front state now → n ≤ length now.piece → Runs state (take n now.piece) end
    → new.piece ≡ drop n now.piece → new.reader ≡ now.reader
    → IsFed r old (front ++ take n now.piece) end new
run_fed {r = r} {old = old} {now = now} {front = front} {state = state} new end n h within runs piece reader =
    let run = take n now.piece in
    let n_is : length run ≡ n = length-take-le n now.piece within in
    let parts : length (drop n now.piece) + n ≡ length now.piece = omega (arith, n_is, length-append run (drop n now.piece), ap length (take-append-drop n now.piece)) in
    let small : length (front ++ run) ≤ 2 ^ 62 = rw (length-append front run, n_is) (small_run (2 ^ 62) (length front) n (length now.piece) (r.passed now.reader) h.small within h.counted h.short.limit) in
    let came : Consumes (left_in r old) (prepend_known (drop n now.piece) (r.left now.reader)) (front ++ run) = Consumes-trans (left_in r old) (left_in r now) (prepend_known (drop n now.piece) (r.left now.reader)) front run h.came (taken (r.left now.reader) n now.piece) in
    record {
      runs = runs_both Fresh state end front run h.runs runs;
      came = rw (piece, reader) came;
      small = small;
      counted = rw (piece, reader, length-append front run, n_is) (omega (arith, parts, h.counted));
      short = record {
        counted = rw (piece, reader) (omega (arith, parts, h.short.counted));
        limit = rw (piece, reader) (small_drop (2 ^ 62) n (length now.piece) (length (drop n now.piece)) (r.passed now.reader) parts h.short.limit);
      };
    }

-- None waited, and the next bytes of the device came.
pub piece_fed : {R : Type 0} {r : Reader R} {old now : Stream R} {front : List ℕ} {state : BlockState} (new : Stream R)
    → IsFed r old front state now → now.piece ≡ []
    → Consumes (r.left now.reader) (r.left new.reader) new.piece → r.passed new.reader ≡ r.passed now.reader + length new.piece → r.passed new.reader ≤ 2 ^ 62
    → IsFed r old front state new
piece_fed {r = r} {old = old} {now = now} {front = front} new h none bytes more limit =
    let came = refilled (r.left now.reader) (r.left new.reader) new.piece bytes in
    let counted : length front ≤ r.passed now.reader = omega (arith, h.counted) in
    record {
      runs = h.runs;
      came = and_nothing (left_in r old) (left_in r now) (left_in r new) front h.came (rw none came);
      small = h.small;
      counted = rw more (omega (arith, counted));
      short = record { counted = rw more (omega arith); limit = λ _. limit };
    }

-- The block is over.
pub fed_whole : {P : ℕ} {R U : Type 0} {r : Reader R} {old new : Stream R} {front : List ℕ} {state : BlockState} (u : U) (tree : FileReader TreeTable P)
    → IsFed r old front state new → state ≡ Over → IsBehindFile tree_form front tree → BlockFed r old (Ok u) new tree
fed_whole {front = front} u tree h over behind =
    let runs = rw over at h.runs in
    (front, (Over, runs), h.came, inl runs, h.small, h.short, behind)

-- The text is over.
pub fed_all : {P : ℕ} {R U : Type 0} {r : Reader R} {old new : Stream R} {front : List ℕ} {state : BlockState} (u : U) (tree : FileReader TreeTable P)
    → IsFed r old front state new → new.piece ≡ [] → IsAtEnd (r.left new.reader) → IsBehindFile tree_form front tree → BlockFed r old (Ok u) new tree
fed_all {r = r} {new = new} {front = front} {state = state} u tree h none all behind =
    (front, (state, h.runs), h.came, inr (rw none (at_end (r.left new.reader) all)), h.small, h.short, behind)

-- A beginning of the block shows a fault.
pub fed_refused : {R : Type 0} {r : Reader R} {old new : Stream R} {front : List ℕ} {state : BlockState} (P : ℕ) (e : DimacsError)
    → IsFed r old front state new → Refused (tree_judge P) [] front e → BlockRefused P r old new e
fed_refused {front = front} {state = state} P e h refused = (front, (state, h.runs), h.came, inl refused)

-- The device has failed.
pub fed_failed : {R : Type 0} {r : Reader R} {old now : Stream R} {front : List ℕ} {state : BlockState} (P : ℕ) (new : Stream R) (e : DimacsError)
    → IsFed r old front state now → now.piece ≡ [] → new.piece ≡ [] → Keeps (r.left now.reader) (r.left new.reader) → r.has_failed new.reader ≡ true
    → fault_at_failure (tree_judge P) front ≡ Some e → BlockRefused P r old new e
fed_failed {r = r} {old = old} {now = now} {front = front} {state = state} P new e h none cleared keeps failed told =
    let same = kept (r.left now.reader) (r.left new.reader) keeps in
    (front, (state, h.runs), and_nothing (left_in r old) (left_in r now) (left_in r new) front h.came (rw (none, cleared) same), inr (inr (failed, told)))
