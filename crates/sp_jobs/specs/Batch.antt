-- What is written for a list of sources.
use Rattle.std.specs.Prelude.{◌≡◌, ℕ, Bool, true, false, List, [], ◌∷◌, length, Option, None, Some, ◌≤◌, All, Result}
use Rattle.std.specs.List.{flat_map, count_by}
use Rattle.sp_word.specs.Word.{max_dist}
use Rattle.sp_device.specs.Devices.{IsBegun}
use Rattle.sp_paths.specs.Paths.{Graph, IsFar}
use Rattle.sp_answer.specs.Table.{TreeTable, IsTable}
use Rattle.sp_files.specs.TreeText.{tree_text, far_text}
use Rattle.sp_answer.specs.Answer.{IsAnswer}
use Rattle.sp_answer.specs.Within.{IsTreeWithin}
use Rattle.sp_network.specs.declared.directions.Direction.{Direction}
use Rattle.sp_jobs.specs.declared.answers.Summary.{Summary}
use Rattle.sp_jobs.specs.Answers.{IsCount}
use Rattle.std.specs.Io.KnownBytes.{Appends}
use Rattle.sp_device.specs.declared.devices.Read.{Ghosts as Reader}
use Rattle.sp_device.specs.declared.devices.Write.{Ghosts as Writer}
use Rattle.sp_jobs.specs.declared.answers.BatchError.{BatchError}
use Rattle.sp_jobs.specs.Answered.{Wrote, wrote_by, IsEnd, IsListRefused, JobAnswered, JobOfSome}
use Rattle.sp_jobs.specs.Listing.{AskedList, InText, AreRefused}
use Rattle.sp_jobs.specs.Network.{IsGraphRefused}
use Rattle.sp_jobs.specs.Vertices.{IsFirstSource}

-- the answer to one source: its tree, or a part of that; or the vertex that is too far
pub data TreeAnswer : Type 0 where
  TreeOf : TreeTable → TreeAnswer
  FarFrom : (source vertex : ℕ) → TreeAnswer

-- Without a limit it is the tree, or the vertex that is too far; with one, the part of the tree within the limit, and nothing else.
abbrev pub IsTreeAnswer : (P : ℕ) → (limit : Option ℕ) → Graph → (s : ℕ) → TreeAnswer → Type 0
IsTreeAnswer P None g s (TreeOf t) = IsTable P t × IsAnswer P g s t
IsTreeAnswer P None g s (FarFrom source vertex) = (source ≡ s) × IsFar g s (max_dist P) (Some vertex)
IsTreeAnswer P (Some limit) g s (TreeOf t) = IsTable P t × IsTreeWithin g s limit t
IsTreeAnswer P (Some limit) g s (FarFrom source vertex) = ⊥

-- the answers to a list of sources, in its order
abbrev pub AreTreeAnswers : (P : ℕ) → (limit : Option ℕ) → Graph → List ℕ → List TreeAnswer → Type 0
AreTreeAnswers P limit g [] [] = Unit {0}
AreTreeAnswers P limit g [] (answer ∷ more) = ⊥
AreTreeAnswers P limit g (s ∷ sources) [] = ⊥
AreTreeAnswers P limit g (s ∷ sources) (answer ∷ more) = IsTreeAnswer P limit g s answer × AreTreeAnswers P limit g sources more

-- a tree's block, or the line of a vertex that is too far
abbrev pub tree_answer_text : TreeAnswer → List ℕ
tree_answer_text (TreeOf t) = tree_text t
tree_answer_text (FarFrom source vertex) = far_text source vertex

-- blocks and lines, joined with nothing between
abbrev pub batch_text : List TreeAnswer → List ℕ
batch_text answers = flat_map tree_answer_text answers

-- The answer for a source is a vertex that is too far.
abbrev pub is_far : TreeAnswer → Bool
is_far (TreeOf t) = false
is_far (FarFrom source vertex) = true

-- The summary of these answers.
abbrev pub IsBatchSummary : List TreeAnswer → Summary → Type 0
IsBatchSummary answers summary = IsCount (length answers) (count_by is_far answers) (batch_text answers) summary

-- Each source has an answer, and of the text of all the answers a beginning stands.
pub record HasBegunBatch (P : ℕ) (limit : Option ℕ) (g : Graph) (sources : List ℕ) (old new : Option (List ℕ)) : Type 0 where
  pub answers : List TreeAnswer
  pub are : AreTreeAnswers P limit g sources answers
  pub begun : IsBegun (batch_text answers) old new

-- ## Answers to texts

-- The sources have answers, up to the limit if there is one; exactly the text of all of them was written, and they were counted.
abbrev pub AreTreesWritten : (P : ℕ) → (limit : Option ℕ) → Graph → (sources : List ℕ) → Wrote → Summary → Type 0
AreTreesWritten P limit graph sources wrote summary = (answers : List TreeAnswer) × AreTreeAnswers P limit graph sources answers × Appends wrote.before wrote.after (batch_text answers) × IsBatchSummary answers summary

-- All sources are vertices, and of the text of their answers a beginning stands.
abbrev pub AreTreesBegun : (P : ℕ) → (limit : Option ℕ) → Graph → (sources : List ℕ) → Wrote → Type 0
AreTreesBegun P limit graph sources wrote = All (λ s. s ≤ graph.n) sources × HasBegunBatch P limit graph sources wrote.before wrote.after

-- For the sources of a graph exactly the text of their answers was written; or a source is no vertex, and nothing was written; or
-- memory was refused or the writer failed, and a beginning of the text stands.
abbrev pub IsBatch : (P : ℕ) → (limit : Option ℕ) → Wrote → Graph → (sources : List ℕ) → Result Summary BatchError → Type 0
IsBatch P limit wrote graph sources result =
    IsEnd (AreTreesWritten P limit graph sources wrote) (IsFirstSource graph.n sources) (AreTreesBegun P limit graph sources wrote) (AreTreesBegun P limit graph sources wrote) wrote result

-- ## Sources of a listing

-- The answer to a text and to what is asked for: a refusal of one of them, with nothing written; or what the graph that the text spells
-- gives and the sources that are asked for, up to the limit.
abbrev pub TreesAnswered : {G W : Type 0} → (P : ℕ) → (way : Direction) → (limit : Option ℕ) → (gr_text : List ℕ) → AskedList → Reader G → G → Writer W → (old new : W) → Result Summary BatchError → Type 0
TreesAnswered P way limit gr_text asked g gr w old new result =
    JobAnswered P way gr_text asked (IsGraphRefused P way gr_text g gr) (AreRefused P asked) (IsBatch P limit) (wrote_by w old new) result

-- the same where the devices perhaps don't tell their bytes
abbrev pub TreesOfSome : {W : Type 0} → (P : ℕ) → (way : Direction) → (limit : Option ℕ) → (List ℕ → AskedList) → Writer W → (old new : W) → Result Summary BatchError → Type 0
TreesOfSome P way limit asked w old new result = JobOfSome P way asked (IsBatch P limit) (wrote_by w old new) result

-- ## Sources of a text

-- The answer to two texts: that to the first and to the sources at these places of the second, of which the reader leaves what the
-- device has left.
abbrev pub BatchAnswered : {G S W : Type 0} → (P : ℕ) → (way : Direction) → (places : Option (ℕ × ℕ)) → (limit : Option ℕ) → (gr_text ss_text : List ℕ) → Reader G → G → Reader S → S → Writer W → (old new : W) → Result Summary BatchError → Type 0
BatchAnswered P way places limit gr_text ss_text g gr s ss w old new result =
    JobAnswered P way gr_text (InText places ss_text) (IsGraphRefused P way gr_text g gr) (IsListRefused P ss_text s ss) (IsBatch P limit) (wrote_by w old new) result

-- The result of a batch over a text of sources, or over those at some places of it.
abbrev pub BatchOfSome : {W : Type 0} → (P : ℕ) → (way : Direction) → (places : Option (ℕ × ℕ)) → (limit : Option ℕ) → Writer W → (old new : W) → Result Summary BatchError → Type 0
BatchOfSome P way places limit w old new result = TreesOfSome P way limit (InText places) w old new result
