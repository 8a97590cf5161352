-- What a command tells of its job.
use Rattle.std.proofs.Common.{◌≡◌, ℕ, Bool, Option, Result, Ok, Err, refl, sym, subst}
use Rattle.std.specs.Prelude.{IfOk, IfErr}
use Rattle.sp_network.specs.declared.faults.NetworkFault.TheVariants.{Text, Packed}
use Rattle.sp_jobs.specs.declared.answers.Summary.{Summary}
use Rattle.sp_jobs.specs.declared.answers.BatchError.{BatchError}
use Rattle.sp_jobs.specs.declared.answers.BatchError.TheVariants.{Gr, Ss, Targets, Pairs, NoSuchVertex, Memory, Write}
use Rattle.sp_command.specs.declared.faults.Fault.{Fault}
use Rattle.sp_command.specs.declared.faults.Fault.TheVariants as fault
use Rattle.sp_command.specs.declared.faults.FileKind.{FileKind}
use Rattle.sp_command.specs.Causes.{Paths, IsBorneOut, MayStayClosed}
use Rattle.sp_command.specs.declared.faults.Status.{Status}
use Rattle.sp_command.specs.Scene.{Files, Scene, IsUnwritten}
use Rattle.sp_options.specs.Ends.{end_after, fault_of}
use Rattle.sp_options.specs.Width.{IsBucket}
use Rattle.sp_options.specs.Within.{IsLimit}
use Rattle.sp_cli.specs.declared.graph_command.GraphCommand.{GraphCommand}
use Rattle.sp_cli.specs.Told.{IsAnswered, IsShut, IsTold, IsFinished, NoVertex}
use Rattle.sp_cli.specs.Commands.{Answering, IsJobAnswer, faults_in}
use Rattle.sp_cli.proofs.Near.{ends_near}

-- A command tells how its job has ended.
pub tells : (far_ok : Bool) (Answered : Result Summary BatchError → Type 0) (s : Scene) (answer : Result Summary BatchError) → Answered answer → IsTold far_ok Answered s (end_after far_ok answer)
tells far_ok Answered s (Ok summary) is = (Ok summary, refl, is)
tells far_ok Answered s (Err (NoSuchVertex v role)) is = (Err (NoSuchVertex v role), refl, is)
tells far_ok Answered s (Err Memory) is = (Err Memory, refl, is)
tells far_ok Answered s (Err Write) is = (Err Write, refl, is)
tells far_ok Answered s (Err (Gr (Text e))) is = (Err (Gr (Text e)), refl, is)
tells far_ok Answered s (Err (Gr (Packed e))) is = (Err (Gr (Packed e)), refl, is)
tells far_ok Answered s (Err (Ss e)) is = (Err (Ss e), refl, is)
tells far_ok Answered s (Err (Targets e)) is = (Err (Targets e), refl, is)
tells far_ok Answered s (Err (Pairs e)) is = (Err (Pairs e), refl, is)

finished : (far_ok : Bool) (Answered : Result Summary BatchError → Type 0) (answer : Result Summary BatchError) → Answered answer → IfOk (end_after far_ok answer) (IsFinished far_ok Answered)
finished far_ok Answered (Ok summary) is = (summary, refl, is)
finished far_ok Answered (Err e) is = tt

with_word : (Word : Type 0) (Says : Status → Type 0) (result : Result Status Fault) → Word → IfOk result Says → IfOk result (λ status. Word × Says status)
with_word Word Says (Ok status) word is = (word, is)
with_word Word Says (Err why) word is = tt

-- A file couldn't be opened.
shut : (paths : Paths) (files : Files) (why : Fault) → IsShut paths files why → (kind : FileKind) × (why ≡ fault.CannotOpen kind) × MayStayClosed paths files kind
shut paths files (fault.Usage e) is = absurd is
shut paths files fault.DeltaOutOfRange is = absurd is
shut paths files fault.LimitOutOfRange is = absurd is
shut paths files fault.InputTwice is = absurd is
shut paths files fault.NoPlaces is = absurd is
shut paths files (fault.OutputIsInput role) is = absurd is
shut paths files (fault.CannotOpen kind) is = (kind, refl, is)
shut paths files (fault.Input kind e) is = absurd is
shut paths files (fault.Packed e) is = absurd is
shut paths files (fault.NoSuchVertex v kind) is = absurd is
shut paths files fault.TooManySteps is = absurd is
shut paths files fault.ToTerminal is = absurd is
shut paths files fault.Memory is = absurd is
shut paths files fault.WriteFailed is = absurd is
shut paths files fault.CannotWrite is = absurd is

module _ {C : Type 0} (P : ℕ) (within : C → Option ℕ) (placeless : C → Type 0) (answers : Answering C) (given : GraphCommand C) (s : Scene) (bucket : IsBucket P given.options.width) (in_range : IsLimit P (within given.own)) (places : ¬ (placeless given.own)) where
  -- Its job has answered.
  pub job_answers : (paths : Paths) (answer : Result Summary BatchError) → IsAnswered paths (within given.own) (answers given.own given.options.direction given.graph.now s) s answer → IsJobAnswer P within placeless answers given s (end_after given.options.far_ok answer)
  job_answers paths answer is =
      let Answered = answers given.own given.options.direction given.graph.now s in
      record {
        no_width = λ none. absurd (none bucket);
        no_limit = λ b none. absurd (none in_range);
        no_places = λ b l lacks. absurd (places lacks);
        told = λ b l p. tells given.options.far_ok Answered s answer is.answered;
        of_some = with_word (¬ (placeless given.own)) (IsFinished given.options.far_ok Answered) (end_after given.options.far_ok answer) places (finished given.options.far_ok Answered answer is.answered);
        near = ends_near given.options.far_ok (within given.own) answer is.near;
      }

  -- A file couldn't be opened.
  pub job_is_shut : (paths : Paths) (why : Fault) → IsUnwritten s → IsShut paths s.files why → IsJobAnswer P within placeless answers given s (Err why)
  job_is_shut paths why unwritten is =
      let why_is = shut paths s.files why is in
      subst (λ w. IsJobAnswer P within placeless answers given s (Err w)) (sym why_is.1) (record {
        no_width = λ none. absurd (none bucket);
        no_limit = λ b none. absurd (none in_range);
        no_places = λ b l lacks. absurd (places lacks);
        told = λ b l p. unwritten;
        of_some = tt;
        near = tt;
      })

-- The same fault is borne out.
pub shut_borne_out : (paths : Paths) (own : Fault → Type 0) (s : Scene) (why : Fault) → IsShut paths s.files why → IsBorneOut paths own s why
shut_borne_out paths own s why is = let why_is = shut paths s.files why is in subst (λ w. IsBorneOut paths own s w) (sym why_is.1) why_is.2

-- A number that is no vertex is a fault of each command's own.
pub job_borne_out : {C : Type 0} (P : ℕ) (within : C → Option ℕ) (placeless : C → Type 0) (given : GraphCommand C) (far_ok : Bool) (paths : Paths) (s : Scene) (answer : Result Summary BatchError)
    → IfErr answer (λ e. IsBorneOut paths NoVertex s (fault_of e)) → IfErr (end_after far_ok answer) (IsBorneOut paths (faults_in P within placeless given) s)
job_borne_out P within placeless given far_ok paths s (Ok summary) is = tt
job_borne_out P within placeless given far_ok paths s (Err (NoSuchVertex v role)) is = tt
job_borne_out P within placeless given far_ok paths s (Err Memory) is = is
job_borne_out P within placeless given far_ok paths s (Err Write) is = is
job_borne_out P within placeless given far_ok paths s (Err (Gr (Text e))) is = is
job_borne_out P within placeless given far_ok paths s (Err (Gr (Packed e))) is = is
job_borne_out P within placeless given far_ok paths s (Err (Ss e)) is = is
job_borne_out P within placeless given far_ok paths s (Err (Targets e)) is = is
job_borne_out P within placeless given far_ok paths s (Err (Pairs e)) is = is
