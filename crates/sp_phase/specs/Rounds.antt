-- What the tasks of a round do to the words and to the marks.
use Rattle.std.specs.Prelude.{◌≡◌, ℕ, ◌≤◌, List, length, All}
use Rattle.sp_word.specs.Word.{Pair, max_dist}
use Rattle.sp_word.specs.History.{Table}
use Rattle.sp_paths.specs.Paths.{IsGraph, IsVertex, HasWalk}
use Rattle.sp_paths.specs.Phase.{IsRelaxedAt}
use Rattle.sp_paths.specs.Rows.{IsArcRelaxed}
use Rattle.sp_offer.specs.Order.{IsKnownWord}
use Rattle.sp_offer.specs.Story.{Knowledge}
use Rattle.sp_bins.specs.declared.entry.Entry.{Entry}
use Rattle.sp_rounds.specs.declared.task.Task.{Task}
use Rattle.sp_rounds.specs.Left.{RoundDone}
use Rattle.sp_rounds.specs.Offers.{arcs_of}
use Rattle.sp_phase.specs.declared.marks.LeaderMark.{LeaderMark}
use Rattle.sp_phase.specs.Stage.{Stage, law_of, rows_of}
use Rattle.sp_phase.specs.Marks.{light_at, heavy_at}

-- The task's distance is the length of a walk to its vertex.
abbrev pub IsDue : (P : ℕ) → Stage → Task → Type 0
IsDue P st t = IsVertex st.graph.n t.vertex × (t.dist ≤ max_dist P) × HasWalk st.graph st.source t.vertex t.dist

-- The tasks were run, and gave these entries.
abbrev pub IsRoundOf : (P : ℕ) → Stage → List Task → (before after : Knowledge) → (found : List Entry) → Type 0
IsRoundOf P st tasks before after found = RoundDone (law_of P st) (max_dist P) (rows_of st) tasks before after found

-- Each arc of the task was relaxed at its distance.
abbrev pub IsDone : (P : ℕ) → Stage → Table → Task → Type 0
IsDone P st words t = All (IsArcRelaxed (max_dist P) words t.dist) (arcs_of (rows_of st) t)

-- What the leader knows is lawful, and the source has its pair. The marks give the distances at which arcs were
-- relaxed.
pub record IsRunning (P : ℕ) (st : Stage) (words : Table) (marks : List LeaderMark) : Type 0 where
  pub source : words st.source ≡ Pair 0 0
  pub lawful : (v : ℕ) → IsKnownWord (law_of P st) v (words v)
  pub size : length marks ≡ st.graph.n
  pub relaxed : IsRelaxedAt st.graph (max_dist P) st.delta words (light_at marks) (heavy_at marks)

-- What holds for a run still holds once the completed tasks are marked.
abbrev pub KeepsRunning : List Task → (before after : List LeaderMark) → Type 0
KeepsRunning tasks before after = (P : ℕ) (st : Stage) (words : Table) → IsGraph st.graph → All (IsDone P st words) tasks → IsRunning P st words before → IsRunning P st words after
