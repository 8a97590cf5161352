-- What holds for a run between its rounds.
use Rattle.std.specs.Prelude.{◌≡◌, ℕ, ◌≤◌, List, ◌++◌, length, All}
use Rattle.std.specs.List.Sorted.{IsPermutation}
use Rattle.sp_word.specs.Word.{max_dist}
use Rattle.sp_paths.specs.Paths.{IsVertex}
use Rattle.sp_offer.specs.Story.{Knowledge, known_table}
use Rattle.sp_bins.specs.declared.entry.Entry.{Entry}
use Rattle.sp_rounds.specs.Content.{BucketsContent}
use Rattle.sp_phase.specs.Stage.{Stage, IsStage}
use Rattle.sp_phase.specs.Marks.{NotedMarks}
use Rattle.sp_phase.specs.Rounds.{IsRunning}
use Rattle.sp_phase.specs.Lead.{Lead}

-- The entry has a vertex, and a distance that fits a word.
abbrev pub IsQueued : (P : ℕ) → Stage → Entry → Type 0
IsQueued P st e = IsVertex st.graph.n e.vertex × (e.dist ≤ max_dist P)

-- The caller belongs to the stage's table, and it made these marks.
pub record Holds (P : ℕ) (st : Stage) (c : Knowledge) (m : NotedMarks) : Type 0 where
  pub stage : IsStage P st
  pub table : c.table ≡ st.table
  pub running : IsRunning P st (known_table c.story) m.each
  pub remembered : All (IsVertex st.graph.n) m.remembered

-- This is a leader between two rounds of a run.
pub record Leads (P : ℕ) (st : Stage) (l : Lead) : Type 0 where
  pub holds : Holds P st l.caller l.marks
  pub width : l.buckets.delta ≡ st.delta
  pub entries : All (IsQueued P st) l.buckets.entries
  pub size : length l.words ≡ st.graph.n

-- The entries are added to the old ones.
abbrev pub HasPut : List Entry → (old new : BucketsContent) → Type 0
HasPut entries old new = IsPermutation (old.entries ++ entries) new.entries
