-- What a replay file holds.
use Rattle.std.specs.Prelude.{ℕ, Bool, List, Option, Result}
use Rattle.sp_text.specs.declared.faults.DimacsError.{DimacsError}
use Rattle.sp_text.specs.Text.{ItemLine as Line, Spells, judge}
use Rattle.sp_text.specs.Collecting.{SpelledBy}
use Rattle.sp_text.specs.Whole.{AllRead}
use Rattle.sp_text.specs.Formats.{ranges_of}
use Rattle.sp_replay.specs.declared.replays.ReplayFile.{ReplayFile}
use Rattle.sp_replay.specs.ReplayFormat.{replay}
use Rattle.sp_replay.specs.Replay.{IsReplay}

-- The numbers of the problem line and the other lines give this.
abbrev pub Says : {P : ℕ} → (problem : List ℕ) → List Line → ReplayFile P → Type 0
Says problem lines file = IsReplay problem lines file.programme file.steps.items

-- Some text without a fault spells it.
pub record IsReplayFile {P : ℕ} (file : ReplayFile P) : Type 0 where
  pub text : List ℕ
  pub problem : List ℕ
  pub lines : List Line
  pub spelled : Spells replay (ranges_of P) text problem lines
  pub says : IsReplay problem lines file.programme file.steps.items

-- This is the answer to the whole text of a device: what it spells, or its first fault.
abbrev pub ReplayRead : {P : ℕ} → (text : List ℕ) → (left : Option (List ℕ)) → (has_failed : Bool) → Result (ReplayFile P) DimacsError → Type 0
ReplayRead {P = P} text left has_failed result = AllRead (judge replay (ranges_of P)) (SpelledBy replay Says) text left has_failed result
