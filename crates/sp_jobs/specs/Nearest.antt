-- What is written for several sources.
use Rattle.std.specs.Prelude.{◌≡◌, ℕ, nat_eq, List, Option, None, Some, ◌≤◌, All, Result}
use Rattle.std.specs.Set.{distinct_count}
use Rattle.sp_word.specs.Word.{max_dist}
use Rattle.sp_device.specs.Devices.{IsBegun}
use Rattle.sp_paths.specs.Paths.{Graph}
use Rattle.sp_paths.specs.Forests.{IsFar}
use Rattle.sp_answer.specs.ForestTable.{ForestTable, IsForestTable}
use Rattle.sp_answer.specs.Nearest.{IsForestAnswer}
use Rattle.sp_files.specs.ForestText.{source_count, forest_text, no_forest_text}
use Rattle.sp_network.specs.declared.directions.Direction.{Direction}
use Rattle.sp_jobs.specs.declared.answers.Summary.{Summary}
use Rattle.sp_jobs.specs.Answers.{IsCount}
use Rattle.std.specs.Io.KnownBytes.{Appends}
use Rattle.sp_device.specs.declared.devices.Read.{Ghosts as Reader}
use Rattle.sp_device.specs.declared.devices.Write.{Ghosts as Writer}
use Rattle.sp_jobs.specs.declared.answers.BatchError.{BatchError}
use Rattle.sp_jobs.specs.Answered.{Wrote, wrote_by, IsEnd, IsUnwritten, JobAnswered, JobOfSome}
use Rattle.sp_jobs.specs.Listing.{AskedList, AreRefused}
use Rattle.sp_jobs.specs.Network.{IsGraphRefused}
use Rattle.sp_jobs.specs.Vertices.{IsFirstSource}

-- the answer: the forest of the sources, or the vertex that is too far from all of them
pub data ForestAnswer : Type 0 where
  ForestOf : ForestTable → ForestAnswer
  FarFromAll : (vertex : ℕ) → ForestAnswer

-- The forest goes up to the limit if there is one, and counts each source once; a vertex is too far only where there is no limit.
abbrev pub IsAnswerToAll : (P : ℕ) → Graph → (sources : List ℕ) → (limit : Option ℕ) → ForestAnswer → Type 0
IsAnswerToAll P g sources limit (ForestOf f) = IsForestTable P f × IsForestAnswer P g sources limit f × (source_count f.rows ≡ distinct_count nat_eq sources)
IsAnswerToAll P g sources None (FarFromAll v) = IsFar g sources (max_dist P) (Some v)
IsAnswerToAll P g sources (Some limit) (FarFromAll v) = ⊥

-- a forest's block, or the line of a vertex that is too far
abbrev pub forest_answer_text : ForestAnswer → List ℕ
forest_answer_text (ForestOf f) = forest_text f
forest_answer_text (FarFromAll v) = no_forest_text v

-- How many of the answers are a vertex that is too far: 1 or 0.
abbrev pub far_count : ForestAnswer → ℕ
far_count (ForestOf f) = 0
far_count (FarFromAll v) = 1

-- One answer is counted, and whether it is a vertex that is too far.
abbrev pub IsForestSummary : ForestAnswer → Summary → Type 0
IsForestSummary answer summary = IsCount 1 (far_count answer) (forest_answer_text answer) summary

-- The sources have an answer, and of its text a beginning stands.
pub record HasBegunForest (P : ℕ) (g : Graph) (sources : List ℕ) (limit : Option ℕ) (old new : Option (List ℕ)) : Type 0 where
  pub answer : ForestAnswer
  pub is : IsAnswerToAll P g sources limit answer
  pub begun : IsBegun (forest_answer_text answer) old new

-- ## Answers to texts

-- The sources have an answer, up to the limit if there is one; exactly its text was written, and it was counted.
abbrev pub IsForestWritten : (P : ℕ) → Graph → (sources : List ℕ) → (limit : Option ℕ) → Wrote → Summary → Type 0
IsForestWritten P graph sources limit wrote summary = (answer : ForestAnswer) × IsAnswerToAll P graph sources limit answer × Appends wrote.before wrote.after (forest_answer_text answer) × IsForestSummary answer summary

-- All sources are vertices.
abbrev pub AreVertices : Graph → (sources : List ℕ) → Type 0
AreVertices graph sources = All (λ s. s ≤ graph.n) sources

-- For the sources of a graph exactly the text of their answer was written; or a source is no vertex, or memory was refused,
-- and nothing was written; or the writer failed, and a beginning of the text stands.
abbrev pub IsForestRun : (P : ℕ) → (limit : Option ℕ) → Wrote → Graph → (sources : List ℕ) → Result Summary BatchError → Type 0
IsForestRun P limit wrote graph sources result =
    IsEnd (IsForestWritten P graph sources limit wrote) (IsFirstSource graph.n sources) (AreVertices graph sources × IsUnwritten wrote)
    (AreVertices graph sources × HasBegunForest P graph sources limit wrote.before wrote.after) wrote result

-- The answer to a text and to what is asked for: a refusal of one of them, with nothing written; or what the graph that the text spells
-- gives and the sources that are asked for, up to the limit.
abbrev pub ForestAnswered : {G W : Type 0} → (P : ℕ) → (way : Direction) → (limit : Option ℕ) → (gr_text : List ℕ) → AskedList → Reader G → G → Writer W → (old new : W) → Result Summary BatchError → Type 0
ForestAnswered P way limit gr_text asked g gr w old new result =
    JobAnswered P way gr_text asked (IsGraphRefused P way gr_text g gr) (AreRefused P asked) (IsForestRun P limit) (wrote_by w old new) result

-- the same where the devices perhaps don't tell their bytes
abbrev pub ForestOfSome : {W : Type 0} → (P : ℕ) → (way : Direction) → (limit : Option ℕ) → (List ℕ → AskedList) → Writer W → (old new : W) → Result Summary BatchError → Type 0
ForestOfSome P way limit asked w old new result = JobOfSome P way asked (IsForestRun P limit) (wrote_by w old new) result
