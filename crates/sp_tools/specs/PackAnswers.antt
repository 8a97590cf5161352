-- The answer of `pack` to the text of its file.
use Rattle.std.specs.Prelude.{◌≡◌, ◌≢◌, ◌⊎◌, ℕ, true, false, List, Some, None, Result, Err, IfOk}
use Rattle.sp_paths.specs.Paths.{Graph}
use Rattle.sp_network.specs.declared.directions.Direction.{Direction}
use Rattle.sp_packed.specs.Packed.{packed_text}
use Rattle.sp_jobs.specs.Network.{SpellsGraph}
use Rattle.sp_command.specs.declared.faults.Fault.{Fault}
use Rattle.sp_command.specs.declared.faults.Fault.TheVariants as fault
use Rattle.sp_command.specs.declared.faults.Status.{Status}
use Rattle.sp_command.specs.declared.faults.FileKind.TheVariants as kind
use Rattle.sp_command.specs.Scene.{Scene, HasText, IsUnwritten, Meaning}
use Rattle.sp_command.specs.Causes.{Paths}
use Rattle.sp_command.specs.Answers.{Told, Tells}
use Rattle.sp_tools.specs.declared.pack.PackCommand.{PackCommand}
use Rattle.sp_tools.specs.Reading.{IsGraphRefused}
use Rattle.sp_tools.specs.ReplayAnswers.{done}

-- That the output goes to a terminal is told, and nothing is written.
abbrev pub IsShown : Scene → Result Status Fault → Type 0
IsShown s result = (result ≡ Err fault.ToTerminal) × IsUnwritten s

-- The graph that the text spells is written as its packed text; or the text is refused; or the output goes to a terminal, or may.
abbrev pub TellsPacked : (P : ℕ) → (way : Direction) → (text : List ℕ) → Scene → Result Status Fault → Type 0
TellsPacked P way text s result = (IsShown s result × (s.files.shown ≢ Some false)) ⊎ Tells (SpellsGraph P way text) packed_text done (IsGraphRefused P way text) s result

-- Some text spells a graph, and exactly its packed text was written.
abbrev pub TellsPackedOfSome : (P : ℕ) → (way : Direction) → Scene → Status → Type 0
TellsPackedOfSome P way s status = (text : List ℕ) × Told (SpellsGraph P way text) packed_text done s status

-- The answer is the packed text of the file's graph, its arcs in the direction, where its text is known; and if it succeeds,
-- whatever is known of it, what belongs to some text. To a terminal nothing is written.
pub record IsPackAnswer (P : ℕ) (c : PackCommand) (s : Scene) (result : Result Status Fault) : Type 0 where
  pub shown : s.files.shown ≡ Some true → IsShown s result
  pub told : (text : List ℕ) → HasText s c.graph.now text → TellsPacked P c.direction text s result
  pub of_some : IfOk result (TellsPackedOfSome P c.direction s)

-- The meaning of the answer of `pack`.
abbrev pub PackAnswers : (P : ℕ) → Meaning PackCommand
PackAnswers P c s result = IsPackAnswer P c s result

-- This is the path of the command's file.
abbrev pub pack_paths : PackCommand → Paths
pack_paths c kind.Graph = Some c.graph.now
pack_paths c _ = None

-- The output may be a terminal.
abbrev pub pack_faults : PackCommand → Fault → Type 0
pack_faults c fault.ToTerminal = Unit {0}
pack_faults c _ = ⊥
