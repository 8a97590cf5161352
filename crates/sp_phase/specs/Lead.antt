-- What contracts see of the leader of a run, and what it does.
use Rattle.std.specs.Prelude.{◌≡◌, ℕ, List, [], All}
use Rattle.sp_word.specs.Word.{Word}
use Rattle.sp_offer.specs.Story.{Knowledge}
use Rattle.sp_rounds.specs.Content.{BucketsContent}
use Rattle.sp_rounds.specs.declared.task.Task.{Task}
use Rattle.sp_phase.specs.declared.marks.LeaderMarks.{LeaderMarks}
use Rattle.sp_phase.specs.Stage.{Stage, Learns}
use Rattle.sp_phase.specs.Marks.{NotedMarks, notes_of}
use Rattle.sp_phase.specs.Rounds.{IsDue}

-- The leader has the store's stage, the caller, what is recorded about the vertices, the queued entries, and a copy of
-- all words.
pub record Lead : Type 0 where
  pub stage : Stage
  pub caller : Knowledge
  pub marks : NotedMarks
  pub buckets : BucketsContent
  pub words : List Word

-- This is what contracts see of a leader with these parts.
abbrev pub lead_of : Stage → Knowledge → LeaderMarks → BucketsContent → List Word → Lead
lead_of st c m b words = record { stage = st; caller = c; marks = notes_of m; buckets = b; words = words }

-- Nothing is remembered any more.
abbrev pub lead_without_memory : Lead → Lead
lead_without_memory l = record l { marks = record l.marks { remembered = [] } }

-- The leader's caller reads.
pub record Reads (P : ℕ) (l l' : Lead) : Type 0 where
  pub rest : l' ≡ record l { caller = l'.caller }
  pub learns : Learns P l.stage l.caller l'.caller

-- The leader goes on: its stage stays, and its caller learns.
pub record GoesOn (P : ℕ) (l l' : Lead) : Type 0 where
  pub stage : l'.stage ≡ l.stage
  pub learns : Learns P l.stage l.caller l'.caller

-- It makes tasks of its stage.
pub record MakesDue (P : ℕ) (tasks : List Task) (l l' : Lead) : Type 0 where
  pub goes : GoesOn P l l'
  pub due : All (IsDue P l.stage) tasks
