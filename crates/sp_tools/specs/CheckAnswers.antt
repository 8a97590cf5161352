-- The answer of `check` to the texts of its files.
use Rattle.std.specs.Prelude.{◌≡◌, ℕ, Bool, true, false, List, Some, None, Option, Result, Err, IfOk}
use Rattle.std.specs.List.{flat_map}
use Rattle.sp_paths.specs.Paths.{Graph}
use Rattle.sp_network.specs.declared.directions.Direction.{Direction}
use Rattle.sp_jobs.specs.Network.{SpellsGraph, HoldsGraph}
use Rattle.sp_files.specs.Whole.{IsFileFault}
use Rattle.sp_files.specs.declared.either.TreeOrForest.{TreeOrForest}
use Rattle.sp_files.specs.TreeOrForest.{IsEither, either_text}
use Rattle.sp_options.specs.Within.{IsLimit}
use Rattle.sp_command.specs.declared.faults.Fault.{Fault}
use Rattle.sp_command.specs.declared.faults.Fault.TheVariants as fault
use Rattle.sp_command.specs.declared.faults.Status.{Status}
use Rattle.sp_command.specs.declared.faults.FileKind.TheVariants as kind
use Rattle.sp_command.specs.Scene.{Scene, Meaning, IsUnwritten}
use Rattle.sp_command.specs.Causes.{Paths}
use Rattle.sp_command.specs.Answers.{Told, Tells}
use Rattle.sp_tools.specs.declared.check.CheckCommand.{CheckCommand}
use Rattle.sp_tools.specs.declared.check.Verdict.{Verdict}
use Rattle.sp_tools.specs.declared.check_all.Judged.{Judged}
use Rattle.sp_tools.specs.Reading.{HeldIn, IsGraphRefused}
use Rattle.sp_tools.specs.Verdict.{IsVerdictOn, verdict_text, verdict_end}
use Rattle.sp_tools.specs.Verdicts.{FileJudged, judged_text, end_of}

-- ## One tree or forest

-- The texts spell a graph, and a tree or a forest, and this is the verdict on that.
pub record TreeJudged (P : ℕ) (way : Direction) (limit : Option ℕ) (gr tree : List ℕ) (verdict : Verdict) : Type 0 where
  pub graph : Graph
  pub spelled : SpellsGraph P way gr graph
  pub held : TreeOrForest P
  pub within : IsEither held
  pub block : tree ≡ either_text held
  pub says : IsVerdictOn limit graph held verdict

-- This is the first fault of the graph's text, or, if that has none, of the text of the tree or forest.
abbrev pub IsTreeRefused : (P : ℕ) → (way : Direction) → (gr tree : List ℕ) → Fault → Type 0
IsTreeRefused P way gr tree (fault.Input kind.Tree e) = HoldsGraph P way gr × HeldIn {P = P} tree (Err e)
IsTreeRefused P way gr tree why = IsGraphRefused P way gr why

-- The verdict on a tree or a forest was written, or a fault says why not.
abbrev pub TellsVerdict : (P : ℕ) → (way : Direction) → (limit : Option ℕ) → (gr tree : List ℕ) → Scene → Result Status Fault → Type 0
TellsVerdict P way limit gr tree s result = Tells (TreeJudged P way limit gr tree) verdict_text verdict_end (IsTreeRefused P way gr tree) s result

-- ## One tree or more

-- The texts spell a graph and trees, and these are the verdicts on the trees.
pub record TreesJudged (P : ℕ) (way : Direction) (limit : Option ℕ) (gr trees : List ℕ) (all : List Judged) : Type 0 where
  pub graph : Graph
  pub spelled : SpellsGraph P way gr graph
  pub says : FileJudged P limit graph trees all

-- This is the first fault of the graph's text, or, if that has none, of the trees' text.
abbrev pub AreTreesRefused : (P : ℕ) → (way : Direction) → (gr trees : List ℕ) → Fault → Type 0
AreTreesRefused P way gr trees (fault.Input kind.Tree e) = HoldsGraph P way gr × ((failed : Bool) × IsFileFault P trees failed e)
AreTreesRefused P way gr trees why = IsGraphRefused P way gr why

-- The lines of several blocks, in order.
abbrev pub judged_texts : List Judged → List ℕ
judged_texts all = flat_map judged_text all

-- The verdict on each block was written, or a fault says why not.
abbrev pub TellsVerdicts : (P : ℕ) → (way : Direction) → (limit : Option ℕ) → (gr trees : List ℕ) → Scene → Result Status Fault → Type 0
TellsVerdicts P way limit gr trees s result = Tells (TreesJudged P way limit gr trees) judged_texts end_of (AreTreesRefused P way gr trees) s result

-- ## The command

-- These are the texts of the command's files.
abbrev pub GiveTexts : (List ℕ → Option (List ℕ)) → CheckCommand → (gr tree : List ℕ) → Type 0
GiveTexts texts c gr tree = (texts c.graph.now ≡ Some gr) × (texts c.tree.now ≡ Some tree)

-- The answer about the file: with `--all` for each block, otherwise for the single block.
abbrev pub SaysOf : (P : ℕ) → (way : Direction) → (all : Bool) → (limit : Option ℕ) → (gr tree : List ℕ) → Scene → Result Status Fault → Type 0
SaysOf P way true limit gr tree s result = TellsVerdicts P way limit gr tree s result
SaysOf P way false limit gr tree s result = TellsVerdict P way limit gr tree s result

-- Some texts spell a graph and a tree or a forest, or with `all` trees, and exactly the text of the verdicts was written.
abbrev pub SaysOfSome : (P : ℕ) → (way : Direction) → (all : Bool) → (limit : Option ℕ) → Scene → Status → Type 0
SaysOfSome P way true limit s status = (gr trees : List ℕ) × Told (TreesJudged P way limit gr trees) judged_texts end_of s status
SaysOfSome P way false limit s status = (gr tree : List ℕ) × Told (TreeJudged P way limit gr tree) verdict_text verdict_end s status

-- Where the layout has no distance as the limit, exactly that is told, with nothing written. Else the answer is the verdict on
-- the tree or the forest of the second file, or with `all` the verdicts on its trees, against the graph of the first file, its arcs in the direction,
-- where their texts are known; and if it succeeds, whatever is known of them, what belongs to some texts.
pub record IsCheckAnswer (P : ℕ) (c : CheckCommand) (s : Scene) (result : Result Status Fault) : Type 0 where
  pub no_limit : ¬ (IsLimit P c.within.limit) → (result ≡ Err fault.LimitOutOfRange) × IsUnwritten s
  pub told : IsLimit P c.within.limit → (gr tree : List ℕ) → GiveTexts s.files.text c gr tree → SaysOf P c.direction c.all c.within.limit gr tree s result
  pub of_some : IfOk result (SaysOfSome P c.direction c.all c.within.limit s)

-- The meaning of the answer of `check`.
abbrev pub CheckAnswers : (P : ℕ) → Meaning CheckCommand
CheckAnswers P c s result = IsCheckAnswer P c s result

-- These are the paths of the command's files.
abbrev pub check_paths : CheckCommand → Paths
check_paths c kind.Graph = Some c.graph.now
check_paths c kind.Tree = Some c.tree.now
check_paths c _ = None

-- The layout may have no distance as the limit.
abbrev pub check_faults : (P : ℕ) → CheckCommand → Fault → Type 0
check_faults P c fault.LimitOutOfRange = ¬ (IsLimit P c.within.limit)
check_faults P c _ = ⊥
