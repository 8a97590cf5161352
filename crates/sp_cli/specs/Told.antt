-- What commands tell that run jobs: of the lists that they name, and of what their jobs have answered.
use Rattle.std.specs.Prelude.{◌≡◌, ◌≢◌, ℕ, Bool, List, Option, Some, None, Result, Ok, Err, IfOk, IfErr, MatchResult}
use Rattle.sp_device.specs.Failing.{Never}
use Rattle.sp_device.specs.declared.devices.Read.{Ghosts as Reader}
use Rattle.sp_device.specs.declared.devices.Write.{Ghosts as Writer}
use Rattle.sp_text.specs.declared.faults.DimacsError.{DimacsError}
use Rattle.sp_text.specs.declared.faults.Kind.TheVariants as kind
use Rattle.sp_network.specs.declared.directions.Direction.{Direction}
use Rattle.sp_jobs.specs.declared.answers.Summary.{Summary}
use Rattle.sp_jobs.specs.declared.answers.BatchError.{BatchError}
use Rattle.sp_jobs.specs.declared.listing.Listing.{Listing}
use Rattle.sp_jobs.specs.Listing.{AskedList, InText, These, AreRefused, HasLeft, IsNumbered, MayRefuse, asked_in}
use Rattle.sp_jobs.specs.Network.{IsNetworkRefused}
use Rattle.sp_jobs.specs.Answered.{Wrote, JobDone, JobAnswered, JobOfSome}
use Rattle.sp_command.specs.declared.faults.Fault.{Fault}
use Rattle.sp_command.specs.declared.faults.Fault.TheVariants as fault
use Rattle.sp_command.specs.declared.faults.Status.{Status}
use Rattle.sp_command.specs.declared.faults.Status.TheVariants as status
use Rattle.sp_command.specs.Causes.{Paths, IsBorneOut, MayStayClosed}
use Rattle.sp_command.specs.Scene.{Files, Scene, scene, IsUnwritten}
use Rattle.sp_options.specs.declared.sources.Sources.{Sources}
use Rattle.sp_options.specs.declared.sources.Sources.TheVariants.{File, Part, Given}
use Rattle.sp_options.specs.Sources.{path_of}
use Rattle.sp_options.specs.Ends.{end_of, end_after, fault_of}

-- ## Lists

-- what a list asks for, if its file has this text
abbrev pub asked_of : Sources → (text : List ℕ) → AskedList
asked_of (File path) text = InText None text
asked_of (Part path places) text = InText places text
asked_of (Given given) text = These given.list.items

-- Its file has this text, if it has a file.
abbrev pub HasTextOf : Files → Sources → (text : List ℕ) → Type 0
HasTextOf files (File path) text = files.text path.now ≡ Some text
HasTextOf files (Part path places) text = files.text path.now ≡ Some text
HasTextOf files (Given given) text = Unit {0}

-- The word for the places spells none.
abbrev pub LackPlaces : Sources → Type 0
LackPlaces (File path) = ⊥
LackPlaces (Part path places) = places ≡ None
LackPlaces (Given given) = ⊥

-- It is opened: it asks for the same, its device gives the text of its file, and may fail where that may.
pub record IsOpenedList {D : Type 0} (device : Reader D) (files : Files) (list : Sources) (opened : Listing D) : Type 0 where
  pub asks : (text : List ℕ) → asked_in opened text ≡ asked_of list text
  pub gives : (text : List ℕ) → HasTextOf files list text → HasLeft device opened text
  pub numbered : IsNumbered opened
  pub refusable : (e : DimacsError) → MayRefuse device opened e → (path : List ℕ) × (path_of list ≡ Some path) × (e.kind ≡ kind.Read → files.failing path ≢ Never)

-- ## Jobs

-- the scene of a run with these files, by what its output tells of what was written
abbrev pub scene_by : {W : Type 0} → Files → Writer W → (old new : W) → Scene
scene_by files w old new = scene files (w.written old) (w.written new) (w.has_failed new)

-- what was written in a scene
abbrev pub wrote_in : Scene → Wrote
wrote_in s = record { before = s.before; after = s.after; failed = s.failed }

-- In the scene that is the answer of the job to the text of a graph and to what is asked for: a refusal of one of them, with nothing
-- written, or what is done; whatever a reader leaves of a text that it refuses, and whether its device fails or not.
abbrev pub IsAnsweredIn : Scene → (P : ℕ) → (way : Direction) → JobDone → (gr : List ℕ) → AskedList → Result Summary BatchError → Type 0
IsAnsweredIn s P way job gr asked answer = JobAnswered P way gr asked (IsNetworkRefused P way gr) (AreRefused P asked) job (wrote_in s) answer

-- The same for some text of a graph, and what is asked for in some text.
abbrev pub IsOfSomeIn : Scene → (P : ℕ) → (way : Direction) → JobDone → (List ℕ → AskedList) → Result Summary BatchError → Type 0
IsOfSomeIn s P way job asked answer = JobOfSome P way asked job (wrote_in s) answer

-- With a limit no vertex is too far.
abbrev pub NoneFar : (limit : Option ℕ) → Summary → Type 0
NoneFar None summary = Unit {0}
NoneFar (Some limit) summary = summary.too_far ≡ 0

-- A number is no vertex.
abbrev pub NoVertex : Fault → Type 0
NoVertex (fault.NoSuchVertex number kind) = Unit {0}
NoVertex _ = ⊥

-- A job has answered this, and what brings its fault about is in the scene.
pub record IsAnswered (paths : Paths) (limit : Option ℕ) (Answered : Result Summary BatchError → Type 0) (s : Scene) (answer : Result Summary BatchError) : Type 0 where
  pub answered : Answered answer
  pub near : IfOk answer (NoneFar limit)
  pub borne_out : IfErr answer (λ e. IsBorneOut paths NoVertex s (fault_of e))

-- A file couldn't be opened.
abbrev pub IsShut : Paths → Files → Fault → Type 0
IsShut paths files (fault.CannotOpen kind) = MayStayClosed paths files kind
IsShut paths files _ = ⊥

-- A job has answered that in the scene, or a file couldn't be opened.
abbrev pub Ends : Paths → (limit : Option ℕ) → (Answered : Scene → Result Summary BatchError → Type 0) → Scene → Result (Result Summary BatchError) Fault → Type 0
Ends paths limit Answered s result = MatchResult result (IsAnswered paths limit (Answered s) s) (IsShut paths s.files)

-- ## What is told

-- A command tells how its job has ended; or a file couldn't be opened, or standard input is named for two files, and nothing was written.
abbrev pub IsTold : (far_ok : Bool) → (Answered : Result Summary BatchError → Type 0) → Scene → Result Status Fault → Type 0
IsTold far_ok Answered s (Err (fault.CannotOpen kind)) = IsUnwritten s
IsTold far_ok Answered s (Err fault.InputTwice) = IsUnwritten s
IsTold far_ok Answered s result = (answer : Result Summary BatchError) × (result ≡ end_after far_ok answer) × Answered answer

-- It ends with this status, as its job has written everything.
abbrev pub IsFinished : (far_ok : Bool) → (Answered : Result Summary BatchError → Type 0) → Status → Type 0
IsFinished far_ok Answered status = (summary : Summary) × (status ≡ end_of far_ok summary) × Answered (Ok summary)

-- With a limit no vertex is told to be too far.
abbrev pub EndsNear : Result Status Fault → (limit : Option ℕ) → Type 0
EndsNear (Ok status.TooFar) (Some limit) = ⊥
EndsNear _ _ = Unit {0}
