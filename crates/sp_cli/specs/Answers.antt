-- What the jobs of `tree`, `nearest` and `matrix` answer to the texts of their files, and what is written then.
use Rattle.std.specs.Prelude.{ℕ, List, None, Result, Ok, IfOk}
use Rattle.sp_network.specs.declared.directions.Direction.{Direction}
use Rattle.sp_jobs.specs.declared.answers.Summary.{Summary}
use Rattle.sp_jobs.specs.declared.answers.BatchError.{BatchError}
use Rattle.sp_jobs.specs.Answered.{JobDone}
use Rattle.sp_jobs.specs.Batch.{IsBatch}
use Rattle.sp_jobs.specs.Nearest.{IsForestRun}
use Rattle.sp_jobs.specs.Matrix.{IsMatrixTo, IsMatrixToSome}
use Rattle.sp_command.specs.declared.faults.FileKind.TheVariants as file
use Rattle.sp_command.specs.Causes.{Paths}
use Rattle.sp_command.specs.Scene.{Scene, HasText}
use Rattle.sp_options.specs.declared.lists.Lists.{Lists}
use Rattle.sp_options.specs.declared.sources.Sources.{Sources}
use Rattle.sp_options.specs.Sources.{path_of}
use Rattle.sp_cli.specs.declared.tree.TreeCommand.{TreeCommand}
use Rattle.sp_cli.specs.declared.nearest.NearestCommand.{NearestCommand}
use Rattle.sp_cli.specs.Told.{asked_of, HasTextOf, IsAnsweredIn, IsOfSomeIn}

-- ## Jobs of a list of sources

-- The answer belongs to the texts of the graph of this path and of the sources, where they are known.
abbrev pub IsOfTexts : (P : ℕ) → (way : Direction) → JobDone → (graph : List ℕ) → Sources → Scene → Result Summary BatchError → Type 0
IsOfTexts P way job graph sources s answer = (gr ss : List ℕ) → HasText s graph gr → HasTextOf s.files sources ss → IsAnsweredIn s P way job gr (asked_of sources ss) answer

-- Where all is written, some texts have what was written.
abbrev pub IsOfSomeTexts : (P : ℕ) → (way : Direction) → JobDone → Sources → Scene → Result Summary BatchError → Type 0
IsOfSomeTexts P way job sources s answer = IfOk answer (λ summary. IsOfSomeIn s P way job (asked_of sources) (Ok summary))

-- The answer belongs to the texts of the files, if they are known; and if everything was written, it belongs to some texts.
abbrev pub IsOfSources : (P : ℕ) → (way : Direction) → JobDone → (graph : List ℕ) → Sources → Scene → Result Summary BatchError → Type 0
IsOfSources P way job graph sources s answer = IsOfTexts P way job graph sources s answer × IsOfSomeTexts P way job sources s answer

-- the path of their file
abbrev pub source_paths : Sources → Paths
source_paths sources file.Sources = path_of sources
source_paths sources _ = None

-- ## tree

-- the trees of sources, up to the limit if there is one
abbrev pub TreeAnswers : (P : ℕ) → TreeCommand → Direction → (graph : List ℕ) → Scene → Result Summary BatchError → Type 0
TreeAnswers P tree way graph s answer = IsOfSources P way (IsBatch P tree.within.limit) graph tree.sources s answer

-- ## nearest

-- the forest of sources, up to the limit if there is one
abbrev pub NearestAnswers : (P : ℕ) → NearestCommand → Direction → (graph : List ℕ) → Scene → Result Summary BatchError → Type 0
NearestAnswers P near way graph s answer = IsOfSources P way (IsForestRun P near.within.limit) graph near.sources s answer

-- ## matrix

-- the lines of each source with each target that is asked for; where all is written, with the targets that are asked for in some text
abbrev pub MatrixAnswers : (P : ℕ) → Lists → Direction → (graph : List ℕ) → Scene → Result Summary BatchError → Type 0
MatrixAnswers P lists way graph s answer = ((ends : List ℕ) → HasTextOf s.files lists.targets ends → IsOfTexts P way (IsMatrixTo P (asked_of lists.targets ends)) graph lists.sources s answer)
    × IsOfSomeTexts P way (IsMatrixToSome P (asked_of lists.targets)) lists.sources s answer

-- the paths of the two files
abbrev pub list_paths : Lists → Paths
list_paths lists file.Sources = path_of lists.sources
list_paths lists file.Targets = path_of lists.targets
list_paths lists _ = None
