-- What is read from the texts of files, of which a part may be left.
use Rattle.std.specs.Prelude.{◌≡◌, ℕ, Bool, List, Option, Result}
use Rattle.std.specs.List.Sorted.{IsPermutation}
use Rattle.sp_text.specs.declared.faults.DimacsError.{DimacsError}
use Rattle.sp_text.specs.Text.{ItemLine as Line, Spells}
use Rattle.sp_text.specs.Formats.{ranges_of}
use Rattle.sp_paths.specs.Paths.{Graph}
use Rattle.sp_network.specs.declared.directions.Direction.{Direction}
use Rattle.sp_network.specs.declared.faults.NetworkFault.TheVariants as network
use Rattle.sp_jobs.specs.Network.{SpellsGraph, IsNetworkRefused}
use Rattle.sp_files.specs.declared.either.TreeOrForest.{TreeOrForest}
use Rattle.sp_files.specs.TreeOrForest.{EitherRead}
use Rattle.sp_replay.specs.declared.replays.ReplayFile.{ReplayFile}
use Rattle.sp_replay.specs.ReplayFormat.{replay}
use Rattle.sp_replay.specs.Replay.{IsReplay}
use Rattle.sp_replay.specs.ReplayFile.{ReplayRead}
use Rattle.sp_command.specs.declared.faults.Fault.{Fault}
use Rattle.sp_command.specs.declared.faults.Fault.TheVariants as fault
use Rattle.sp_command.specs.declared.faults.FileKind.TheVariants as kind

-- This is the answer of a reader to the text.
abbrev pub HeldIn : {P : ℕ} → (text : List ℕ) → Result (TreeOrForest P) DimacsError → Type 0
HeldIn text result = (left : Option (List ℕ)) × (failed : Bool) × EitherRead text left failed result

-- The result of reading a text as a replay file, whatever is left unread and whether or not the device failed.
abbrev pub ReplayIn : {P : ℕ} → (text : List ℕ) → Result (ReplayFile P) DimacsError → Type 0
ReplayIn text result = (left : Option (List ℕ)) × (failed : Bool) × ReplayRead text left failed result

-- The graph has the arcs of the one that the text spells, in this direction, possibly in a different order.
pub record IsGraphIn (P : ℕ) (way : Direction) (text : List ℕ) (g : Graph) : Type 0 where
  pub graph : Graph
  pub spelled : SpellsGraph P way text graph
  pub n : g.n ≡ graph.n
  pub each : IsPermutation graph.arcs g.arcs

-- The fault is the first one of a graph's text, whatever a reader leaves of it.
abbrev pub IsGraphRefused : (P : ℕ) → (way : Direction) → (text : List ℕ) → Fault → Type 0
IsGraphRefused P way text (fault.Input kind.Graph e) = IsNetworkRefused P way text (network.Text e)
IsGraphRefused P way text (fault.Packed e) = IsNetworkRefused P way text (network.Packed e)
IsGraphRefused P way text _ = ⊥

-- The same, or there was no memory.
abbrev pub IsGraphFault : (P : ℕ) → (way : Direction) → (text : List ℕ) → Fault → Type 0
IsGraphFault P way text fault.Memory = Unit {0}
IsGraphFault P way text why = IsGraphRefused P way text why

-- The text has no fault, and spells this programme and these steps.
abbrev pub SpellsReplay : {P : ℕ} → (text : List ℕ) → ReplayFile P → Type 0
SpellsReplay {P} text file = (problem : List ℕ) × (lines : List Line) × Spells replay (ranges_of P) text problem lines × IsReplay problem lines file.programme file.steps.items
