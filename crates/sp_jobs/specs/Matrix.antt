-- What is written for a matrix: each source with each target.
use Rattle.std.specs.Prelude.{◌≡◌, ◌≤◌, ◌⊎◌, ℕ, List, map, All, Result, Err}
use Rattle.std.specs.List.{flat_map}
use Rattle.sp_paths.specs.Paths.{Graph}
use Rattle.sp_network.specs.declared.directions.Direction.{Direction}
use Rattle.sp_jobs.specs.declared.answers.Summary.{Summary}
use Rattle.sp_jobs.specs.declared.answers.BatchError.{BatchError}
use Rattle.sp_jobs.specs.declared.answers.Role.{Role}
use Rattle.sp_jobs.specs.declared.answers.Role.TheVariants.{Target}
use Rattle.sp_jobs.specs.Answered.{Wrote, IsEnd, wrote_by, IsUnwritten, JobAnswered, JobOfSome}
use Rattle.sp_jobs.specs.Vertices.{IsFirstAbove, IsFirstSource}
use Rattle.sp_jobs.specs.PairAnswers.{word_kind, AreLinesWritten, HasBegunPairs}
use Rattle.sp_device.specs.declared.devices.Read.{Ghosts as Reader}
use Rattle.sp_device.specs.declared.devices.Write.{Ghosts as Writer}
use Rattle.sp_jobs.specs.declared.answers.BatchError.TheVariants.{Targets}
use Rattle.sp_jobs.specs.Listing.{AskedList, AreAsked, AreRefused}
use Rattle.sp_jobs.specs.Network.{IsGraphRefused}

-- the pairs of a source with each target
abbrev pub pairs_from : (s : ℕ) → (targets : List ℕ) → List (ℕ × ℕ)
pairs_from s targets = map (λ t. (s, t)) targets

-- the pairs of each source with each target, in the order of the sources, and of one in the order of the targets
abbrev pub matrix_of : (sources targets : List ℕ) → List (ℕ × ℕ)
matrix_of sources targets = flat_map (λ s. pairs_from s targets) sources

-- All sources and targets are at most n.
pub record AreUpTo (n : ℕ) (sources targets : List ℕ) : Type 0 where
  pub each_source : All (λ s. s ≤ n) sources
  pub each_target : All (λ t. t ≤ n) targets

-- the first source above n; or, where there is none, the first target
abbrev pub IsFirstOfLists : (n : ℕ) → (sources targets : List ℕ) → (v : ℕ) → Role → Type 0
IsFirstOfLists n sources targets v role = IsFirstSource n sources v role ⊎ (All (λ s. s ≤ n) sources × IsFirstAbove n targets v × (role ≡ Target))

-- All numbers are vertices, and of the lines of a matrix a beginning stands.
abbrev pub AreLinesBegun : (P : ℕ) → Graph → (sources targets : List ℕ) → Wrote → Type 0
AreLinesBegun P graph sources targets wrote = AreUpTo graph.n sources targets × HasBegunPairs word_kind P graph (matrix_of sources targets) wrote.before wrote.after

-- For the pairs of a matrix exactly the lines were written that they have in a list of pairs; or a number is no vertex, and nothing was
-- written; or memory was refused or the writer failed, and a beginning of the lines stands.
abbrev pub IsMatrix : (P : ℕ) → (targets : List ℕ) → Wrote → Graph → (sources : List ℕ) → Result Summary BatchError → Type 0
IsMatrix P targets wrote graph sources result =
    IsEnd (AreLinesWritten word_kind P graph (matrix_of sources targets) wrote) (IsFirstOfLists graph.n sources targets) (AreLinesBegun P graph sources targets wrote) (AreLinesBegun P graph sources targets wrote) wrote result

-- ## Answers to texts

-- What is done for a graph and sources, and a list that asks for the targets: a refusal of the list, with nothing written; or the matrix.
abbrev pub IsMatrixTo : (P : ℕ) → (ends : AskedList) → Wrote → Graph → (sources : List ℕ) → Result Summary BatchError → Type 0
IsMatrixTo P ends wrote graph sources (Err (Targets e)) = AreRefused P ends e × IsUnwritten wrote
IsMatrixTo P ends wrote graph sources result = (targets : List ℕ) × AreAsked P ends targets × IsMatrix P targets wrote graph sources result

-- The same where the device perhaps doesn't tell its bytes: the list is asked for in some text.
abbrev pub IsMatrixToSome : (P : ℕ) → (ends : List ℕ → AskedList) → Wrote → Graph → (sources : List ℕ) → Result Summary BatchError → Type 0
IsMatrixToSome P ends wrote graph sources (Err (Targets e)) = IsUnwritten wrote
IsMatrixToSome P ends wrote graph sources result = (text targets : List ℕ) × AreAsked P (ends text) targets × IsMatrix P targets wrote graph sources result

-- The answer to the text of a graph and to two lists: a fault of a text, where those before it have none, with nothing written; or
-- what the graph gives that the text spells, and the sources and the targets.
abbrev pub MatrixAnswered : {G W : Type 0} → (P : ℕ) → (way : Direction) → (gr_text : List ℕ) → (starts ends : AskedList) → Reader G → G → Writer W → (old new : W) → Result Summary BatchError → Type 0
MatrixAnswered P way gr_text starts ends g gr w old new result =
    JobAnswered P way gr_text starts (IsGraphRefused P way gr_text g gr) (AreRefused P starts) (IsMatrixTo P ends) (wrote_by w old new) result

-- The same where the devices perhaps don't tell their bytes: some texts spell the graph, and what the lists ask for in them.
abbrev pub MatrixOfSome : {W : Type 0} → (P : ℕ) → (way : Direction) → (starts ends : List ℕ → AskedList) → Writer W → (old new : W) → Result Summary BatchError → Type 0
MatrixOfSome P way starts ends w old new result = JobOfSome P way starts (IsMatrixToSome P ends) (wrote_by w old new) result
