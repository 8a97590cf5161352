-- What a command says that runs a job in a graph, by what its own part says.
use Rattle.std.specs.Prelude.{◌≡◌, ◌⊎◌, ℕ, true, List, Option, Some, Result, Err, IfOk, IfErr, MatchResult, codes}
use Rattle.clap.specs.Matches.{first_value}
use Rattle.clap.specs.declared.parser.matches.Found.{Found}
use Rattle.sp_device.specs.declared.devices.Write.{Ghosts as Writer}
use Rattle.sp_network.specs.declared.directions.Direction.{Direction}
use Rattle.sp_jobs.specs.declared.answers.Summary.{Summary}
use Rattle.sp_jobs.specs.declared.answers.BatchError.{BatchError}
use Rattle.sp_jobs.specs.Answers.{is_early}
use Rattle.sp_command.specs.declared.faults.FileKind.TheVariants as file
use Rattle.sp_command.specs.declared.faults.Fault.{Fault}
use Rattle.sp_command.specs.declared.faults.Fault.TheVariants as fault
use Rattle.sp_command.specs.declared.faults.Status.{Status}
use Rattle.sp_command.specs.Causes.{Paths}
use Rattle.sp_command.specs.Scene.{Files, Scene, IsUnwritten}
use Rattle.sp_options.specs.Running.{IsAskedFor, LacksOptions}
use Rattle.sp_options.specs.Width.{IsBucket}
use Rattle.sp_options.specs.Within.{IsLimit}
use Rattle.sp_tools.specs.Words.{LacksValue}
use Rattle.sp_cli.specs.declared.graph_command.GraphCommand.{GraphCommand}
use Rattle.sp_cli.specs.declared.context.CommandContext.{CommandContext}
use Rattle.sp_cli.specs.Told.{Ends, IsTold, IsFinished, EndsNear, scene_by}

-- ## Words

-- These are the graph, the options and the command's own part.
pub record IsInGraph {C : Type 0} (reads : Found → C → Type 0) (found : Found) (command : GraphCommand C) : Type 0 where
  pub graph : first_value found (codes "GR") ≡ Some command.graph.now
  pub options : IsAskedFor found command.options
  pub own : reads found command.own

-- A command line lacks the graph, a valid option for runs, or something that the command itself needs.
abbrev pub LacksInGraph : (lacks : Found → Type 0) → Found → Type 0
LacksInGraph lacks found = LacksValue found (codes "GR") ⊎ (LacksOptions found ⊎ lacks found)

-- ## Answers

-- what a command's job answers, with the graph of this path, its arcs in this direction
abbrev pub Answering : Type 0 → Type 1
Answering C = C → Direction → (graph : List ℕ) → Scene → Result Summary BatchError → Type 0

-- What the command answers: where the layout has no such width, or else no such distance as the limit, or else a word for places spells
-- none, exactly that, with nothing written; else it tells how its job has ended; and if it succeeds, whatever else, its job has.
pub record IsJobAnswer {C : Type 0} (P : ℕ) (within : C → Option ℕ) (placeless : C → Type 0) (answers : Answering C) (given : GraphCommand C) (s : Scene) (result : Result Status Fault) : Type 0 where
  pub no_width : ¬ (IsBucket P given.options.width) → (result ≡ Err fault.DeltaOutOfRange) × IsUnwritten s
  pub no_limit : IsBucket P given.options.width → ¬ (IsLimit P (within given.own)) → (result ≡ Err fault.LimitOutOfRange) × IsUnwritten s
  pub no_places : IsBucket P given.options.width → IsLimit P (within given.own) → placeless given.own → (result ≡ Err fault.NoPlaces) × IsUnwritten s
  pub told : IsBucket P given.options.width → IsLimit P (within given.own) → ¬ (placeless given.own)
      → IsTold given.options.far_ok (answers given.own given.options.direction given.graph.now s) s result
  pub of_some : IfOk result (λ status. ¬ (placeless given.own) × IsFinished given.options.far_ok (answers given.own given.options.direction given.graph.now s) status)
  pub near : EndsNear result (within given.own)

-- These are the paths of a command's files, with that of the graph.
abbrev pub paths_in : (graph : List ℕ) → Paths → Paths
paths_in graph paths file.Graph = Some graph
paths_in graph paths kind = paths kind

-- These faults the words of a command or its texts may bring about: the layout has no such width, or no such distance as the limit, a
-- word spells no places, or a number is no vertex.
abbrev pub faults_in : {C : Type 0} → (P : ℕ) → (within : C → Option ℕ) → (placeless : C → Type 0) → GraphCommand C → Fault → Type 0
faults_in P within placeless given fault.DeltaOutOfRange = ¬ (IsBucket P given.options.width)
faults_in P within placeless given fault.LimitOutOfRange = ¬ (IsLimit P (within given.own))
faults_in P within placeless given fault.NoPlaces = placeless given.own
faults_in P within placeless given (fault.NoSuchVertex number kind) = Unit {0}
faults_in P within placeless given _ = ⊥

-- ## A command's own part

-- The limit of a place is this one, and the layout has such a distance.
abbrev pub IsPlaced : {F : Type 0} → (P : ℕ) → (within : Option ℕ) → CommandContext F → Type 0
IsPlaced P within place = (place.limit ≡ within) × IsLimit P place.limit

-- In a place a job has answered that, or a file couldn't be opened.
abbrev pub EndsAt : {F W : Type 0} → (files_of : F → Files) → Paths → (within : Option ℕ) → (Answered : Direction → (graph : List ℕ) → Scene → Result Summary BatchError → Type 0) → CommandContext F → Writer W → (old new : W) → Result (Result Summary BatchError) Fault → Type 0
EndsAt files_of paths within Answered place w old new result = Ends (paths_in place.graph.now paths) within (Answered place.direction place.graph.now) (scene_by (files_of place.files.now) w old new) result

-- Before a fault that comes early nothing is written.
abbrev pub IsUntouched : {W : Type 0} → (old new : W) → Result (Result Summary BatchError) Fault → Type 0
IsUntouched old new result = MatchResult result (λ answer. IfErr answer (λ e. is_early e ≡ true → new ≡ old)) (λ why. new ≡ old)
