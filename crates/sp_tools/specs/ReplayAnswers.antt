-- The answer of `replay` to the text of its file.
use Rattle.std.specs.Prelude.{◌≡◌, ◌<◌, ◌≤◌, ◌⊎◌, ℕ, Bool, true, false, List, length, map, All, Some, None, Result, Ok, Err, IfOk}
use Rattle.std.specs.String.{string_bytes}
use Rattle.sp_machine.specs.declared.report.Report.{Report}
use Rattle.sp_machine.specs.Programme.{Programme}
use Rattle.sp_machine.specs.Run.{opening_machine, run_of}
use Rattle.sp_machine.specs.ReportOf.{IsReportOf}
use Rattle.sp_replay.specs.declared.replays.ReplayFile.{ReplayFile}
use Rattle.sp_replay.specs.ReportText.{report_text}
use Rattle.sp_picture.specs.declared.picture.Picture.{Picture}
use Rattle.sp_picture.specs.Marks.{marks_from}
use Rattle.sp_picture.specs.Ties.{IsTie, lost_from}
use Rattle.sp_command.specs.declared.faults.Fault.{Fault}
use Rattle.sp_command.specs.declared.faults.Fault.TheVariants.{Input, TooManySteps}
use Rattle.sp_command.specs.declared.faults.Status.{Status}
use Rattle.sp_command.specs.declared.faults.Status.TheVariants.{Done}
use Rattle.sp_command.specs.declared.faults.FileKind.TheVariants as kind
use Rattle.sp_command.specs.Scene.{Scene, HasText, IsUnwritten, Meaning}
use Rattle.sp_command.specs.Causes.{Paths}
use Rattle.sp_command.specs.Answers.{Told, Tells}
use Rattle.sp_tools.specs.declared.replay.ReplayCommand.{ReplayCommand}
use Rattle.sp_tools.specs.Reading.{ReplayIn, SpellsReplay}

-- The text spells a programme and steps, and this is the report of their run.
pub record IsReplayed {P : ℕ} (text : List ℕ) (report : Report P) : Type 0 where
  pub file : ReplayFile P
  pub spelled : SpellsReplay text file
  pub is : IsReportOf file.programme file.steps.items report

-- The picture shows the calls, the steps and the lost exchanges of the run, each tied to the right load and store.
pub record IsPictureOf {P : ℕ} (p : Programme P) (steps : List ℕ) (picture : Picture P) : Type 0 where
  pub bars : picture.drawing.bars.items ≡ (run_of p steps).log.calls
  pub marks : picture.drawing.marks.items ≡ marks_from (opening_machine p) steps
  pub lost : map (λ tie. tie.lost) picture.drawing.ties.items ≡ lost_from 0 picture.drawing.marks.items
  pub tied : All (IsTie picture.drawing.marks.items) picture.drawing.ties.items

-- The text spells a programme and steps, few enough for a picture, and this is a picture of their run.
pub record IsDrawn {P : ℕ} (text : List ℕ) (picture : Picture P) : Type 0 where
  pub file : ReplayFile P
  pub spelled : SpellsReplay text file
  pub few : length file.steps.items ≤ 60
  pub is : IsPictureOf file.programme file.steps.items picture

-- This is the first fault of the text.
abbrev pub IsReplayRefused : (P : ℕ) → (text : List ℕ) → Fault → Type 0
IsReplayRefused P text (Input kind.Replay e) = ReplayIn {P = P} text (Err e)
IsReplayRefused P text _ = ⊥

-- The status after anything that was written is `Done`.
abbrev pub done : {V : Type 0} → V → Status
done v = Done

-- The report of a replay was written, or a fault says why not.
abbrev pub TellsReport : (P : ℕ) → (text : List ℕ) → Scene → Result Status Fault → Type 0
TellsReport P text s result = Tells (IsReplayed {P = P} text) report_text done (IsReplayRefused P text) s result

-- The text of a picture.
abbrev pub picture_text : {P : ℕ} → Picture P → List ℕ
picture_text picture = string_bytes picture.text

-- The text spells too many steps for a picture, and nothing was written.
abbrev pub HasTooMany : (P : ℕ) → (text : List ℕ) → Scene → Fault → Type 0
HasTooMany P text s why = (why ≡ TooManySteps) × IsUnwritten s × ((file : ReplayFile P) × SpellsReplay text file × (60 < length file.steps.items))

-- The picture of a replay was written, or a fault says why not, such as too many steps.
abbrev pub TellsPicture : (P : ℕ) → (text : List ℕ) → Scene → Result Status Fault → Type 0
TellsPicture P text s (Ok status) = Tells (IsDrawn {P = P} text) picture_text done (IsReplayRefused P text) s (Ok status)
TellsPicture P text s (Err why) = Tells (IsDrawn {P = P} text) picture_text done (IsReplayRefused P text) s (Err why) ⊎ HasTooMany P text s why

-- The answer about a replay file: with `--svg` its picture, otherwise its report.
abbrev pub SaysOf : (P : ℕ) → (svg : Bool) → (text : List ℕ) → Scene → Result Status Fault → Type 0
SaysOf P true text s result = TellsPicture P text s result
SaysOf P false text s result = TellsReport P text s result

-- Some text spells a run, and exactly the text of its report was written, or with `svg` of its picture.
abbrev pub SaysOfSome : (P : ℕ) → (svg : Bool) → Scene → Status → Type 0
SaysOfSome P true s status = (text : List ℕ) × Told (IsDrawn {P = P} text) picture_text done s status
SaysOfSome P false s status = (text : List ℕ) × Told (IsReplayed {P = P} text) report_text done s status

-- The answer is the report of the run of the file, or with `svg` a picture of it, where its text is known; and if it
-- succeeds, whatever is known of it, what belongs to some text.
pub record IsReplayAnswer (P : ℕ) (c : ReplayCommand) (s : Scene) (result : Result Status Fault) : Type 0 where
  pub told : (text : List ℕ) → HasText s c.file.now text → SaysOf P c.svg text s result
  pub of_some : IfOk result (SaysOfSome P c.svg s)

-- The meaning of the answer of `replay`.
abbrev pub ReplayAnswers : (P : ℕ) → Meaning ReplayCommand
ReplayAnswers P c s result = IsReplayAnswer P c s result

-- This is the path of the command's file.
abbrev pub replay_paths : ReplayCommand → Paths
replay_paths c kind.Replay = Some c.file.now
replay_paths c _ = None

-- Too many steps are told of only where a picture is asked for.
abbrev pub replay_faults : ReplayCommand → Fault → Type 0
replay_faults c TooManySteps = c.svg ≡ true
replay_faults c _ = ⊥
