-- The graph that a job answers for: which texts spell it, and how they are refused.
use Rattle.std.specs.Prelude.{◌≡◌, ◌≢◌, ℕ, Bool, List, Option, Err}
use Rattle.sp_device.specs.Failing.{Failing, Never}
use Rattle.sp_device.specs.declared.devices.Read.{Ghosts as Reader}
use Rattle.sp_paths.specs.Paths.{Graph}
use Rattle.sp_dimacs.specs.declared.graphs.GrFile.{GrFile}
use Rattle.sp_dimacs.specs.Graph.{graph_of}
use Rattle.sp_network.specs.Network.{SpellsNetwork, NetworkRead, IsOfDevice, most_of, directed}
use Rattle.sp_network.specs.declared.directions.Direction.{Direction}
use Rattle.sp_network.specs.declared.faults.NetworkFault.{NetworkFault}

-- ## Texts and faults
-- These alone say of which form the file of a graph is; all other definitions speak of the graph.

-- The text of a graph's file, of lines or packed, spells a graph which is this one with its arcs in the direction that is asked for.
abbrev pub SpellsGraph : (P : ℕ) → (way : Direction) → (text : List ℕ) → Graph → Type 0
SpellsGraph P way text graph = (file : GrFile) × SpellsNetwork P (most_of way) text file × (graph ≡ directed way (graph_of file))

-- what a reader tells of such a file that it refuses
abbrev pub GraphFault : Type 0
GraphFault = NetworkFault

-- A reader refuses the text with this fault; it leaves that of it, and its device has failed or not.
abbrev pub RefusesGraph : (P : ℕ) → (way : Direction) → (text : List ℕ) → (left : Option (List ℕ)) → (failed : Bool) → GraphFault → Type 0
RefusesGraph P way text left failed e = NetworkRead P (most_of way) text left failed (Err e)

-- That it couldn't be read is told only of a device that may fail.
abbrev pub MayReadGraph : Failing → GraphFault → Type 0
MayReadGraph device e = IsOfDevice e → device ≢ Never

-- ## What is said with them

-- The text spells a graph.
abbrev pub HoldsGraph : (P : ℕ) → (way : Direction) → (text : List ℕ) → Type 0
HoldsGraph P way text = (graph : Graph) × SpellsGraph P way text graph

-- The reader of a graph's device refuses its text.
abbrev pub IsGraphRefused : {G : Type 0} → (P : ℕ) → (way : Direction) → (text : List ℕ) → Reader G → G → GraphFault → Type 0
IsGraphRefused P way text g gr e = RefusesGraph P way text (g.left gr) (g.has_failed gr) e

-- A reader refuses the text, whatever it leaves of it, and whether its device fails or not.
abbrev pub IsNetworkRefused : (P : ℕ) → (way : Direction) → (text : List ℕ) → GraphFault → Type 0
IsNetworkRefused P way text e = (left : Option (List ℕ)) × (failed : Bool) × RefusesGraph P way text left failed e
