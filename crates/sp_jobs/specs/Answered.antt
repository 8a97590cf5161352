-- What a job answers to the text of a graph and to a list of sources, and what stands written then.
use Rattle.std.specs.Prelude.{◌≡◌, ℕ, Bool, true, List, Option, Result, Ok, Err}
use Rattle.sp_device.specs.Failing.{Failing}
use Rattle.sp_device.specs.declared.devices.Read.{Ghosts as Reader}
use Rattle.sp_device.specs.declared.devices.Write.{Ghosts as Writer}
use Rattle.sp_text.specs.declared.faults.DimacsError.{DimacsError}
use Rattle.sp_paths.specs.Paths.{Graph}
use Rattle.sp_dimacs.specs.declared.graphs.GrFile.{GrFile}
use Rattle.sp_dimacs.specs.Graph.{graph_of}
use Rattle.sp_network.specs.Network.{directed}
use Rattle.sp_network.specs.declared.directions.Direction.{Direction}
use Rattle.sp_dimacs.specs.Sources.{SourcesRead}
use Rattle.sp_jobs.specs.declared.answers.Role.{Role}
use Rattle.sp_jobs.specs.declared.answers.Summary.{Summary}
use Rattle.sp_jobs.specs.declared.answers.BatchError.{BatchError}
use Rattle.sp_jobs.specs.declared.answers.BatchError.TheVariants.{Gr, Ss, Targets, Pairs, NoSuchVertex, Memory, Write}
use Rattle.sp_jobs.specs.declared.listing.Listed.{Listed}
use Rattle.sp_jobs.specs.Listing.{AskedList, AreAsked, numbers_of}
use Rattle.sp_jobs.specs.Network.{SpellsGraph, HoldsGraph, GraphFault, MayReadGraph}

-- ## What is written

-- what was written before and is after, as far as that is known, and whether the writer has failed
pub record Wrote : Type 0 where
  pub before : Option (List ℕ)
  pub after : Option (List ℕ)
  pub failed : Bool

-- What a writer wrote between two states.
abbrev pub wrote_by : {W : Type 0} → Writer W → (old new : W) → Wrote
wrote_by w old new = record { before = w.written old; after = w.written new; failed = w.has_failed new }

-- Nothing was written.
abbrev pub IsUnwritten : Wrote → Type 0
IsUnwritten wrote = wrote.after ≡ wrote.before

-- How a job ends that has read its texts: all is written, and that holds of the summary; or a number of this role is no vertex, and nothing
-- was written; or memory was refused, or the writer failed, and that holds.
abbrev pub IsEnd : (Finished : Summary → Type 0) → (NoVertex : ℕ → Role → Type 0) → (Refused Begun : Type 0) → Wrote → Result Summary BatchError → Type 0
IsEnd Finished NoVertex Refused Begun wrote (Ok summary) = Finished summary
IsEnd Finished NoVertex Refused Begun wrote (Err (NoSuchVertex v role)) = NoVertex v role × IsUnwritten wrote
IsEnd Finished NoVertex Refused Begun wrote (Err Memory) = Refused
IsEnd Finished NoVertex Refused Begun wrote (Err Write) = Begun × (wrote.failed ≡ true)
IsEnd Finished NoVertex Refused Begun wrote (Err _) = ⊥

-- ## What is read

-- The reader of a list's device refuses its text.
abbrev pub IsListRefused : {S : Type 0} → (P : ℕ) → (text : List ℕ) → Reader S → S → DimacsError → Type 0
IsListRefused P text s ss e = SourcesRead P text (s.left ss) (s.has_failed ss) (Err e)

-- What a job has read of its files: a text spells the graph, and the list has the numbers that are asked for.
pub record AreRead (P : ℕ) (way : Direction) (gr_text : List ℕ) (asked : AskedList) (files : GrFile × Listed) : Type 0 where
  pub spells_graph : SpellsGraph P way gr_text (directed way (graph_of files.0))
  pub are_asked : AreAsked P asked (numbers_of files.1)

-- A fault of the text of the graph, or of the list of the sources, of which that holds.
abbrev pub IsFileFault : (OfGraph : GraphFault → Type 0) → (OfSources : DimacsError → Type 0) → BatchError → Type 0
IsFileFault OfGraph OfSources (Gr e) = OfGraph e
IsFileFault OfGraph OfSources (Ss e) = OfSources e
IsFileFault OfGraph OfSources _ = ⊥

-- A fault of the text of the graph, of which that holds.
abbrev pub IsGraphFault : (OfGraph : GraphFault → Type 0) → BatchError → Type 0
IsGraphFault OfGraph e = IsFileFault OfGraph (λ fault. ⊥) e

-- The list is refused, where a text spells a graph.
abbrev pub IsListFault : (P : ℕ) → (way : Direction) → (gr_text : List ℕ) → (NoList : DimacsError → Type 0) → DimacsError → Type 0
IsListFault P way gr_text NoList e = HoldsGraph P way gr_text × NoList e

-- ## What is answered

-- what is done for a graph and sources: what stands written then, and how it ends
abbrev pub JobDone : Type 1
JobDone = Wrote → Graph → (sources : List ℕ) → Result Summary BatchError → Type 0

-- A text spells a graph, these are the sources that are asked for, and for them that was done.
pub record AreAnswered (P : ℕ) (way : Direction) (gr_text : List ℕ) (asked : AskedList) (Done : Graph → (sources : List ℕ) → Type 0) : Type 0 where
  pub graph : Graph
  pub sources : List ℕ
  pub spells_graph : SpellsGraph P way gr_text graph
  pub are_asked : AreAsked P asked sources
  pub done : Done graph sources

-- The answer to the text of a graph and to a list: a refusal of the text, or of the list where the text spells a graph, with nothing
-- written; or what is done for the graph and the sources that are asked for.
abbrev pub JobAnswered : (P : ℕ) → (way : Direction) → (gr_text : List ℕ) → AskedList → (NoGraph : GraphFault → Type 0) → (NoList : DimacsError → Type 0) → (Done : JobDone) → Wrote → Result Summary BatchError → Type 0
JobAnswered P way gr_text asked NoGraph NoList Done wrote (Err (Gr e)) = NoGraph e × IsUnwritten wrote
JobAnswered P way gr_text asked NoGraph NoList Done wrote (Err (Ss e)) = HoldsGraph P way gr_text × NoList e × IsUnwritten wrote
JobAnswered P way gr_text asked NoGraph NoList Done wrote result = AreAnswered P way gr_text asked (λ graph sources. Done wrote graph sources result)

-- The same where the devices perhaps don't tell their bytes: some text spells the graph, and the list is asked for in some text.
abbrev pub JobOfSome : (P : ℕ) → (way : Direction) → (List ℕ → AskedList) → (Done : JobDone) → Wrote → Result Summary BatchError → Type 0
JobOfSome P way asked Done wrote (Err (Gr e)) = IsUnwritten wrote
JobOfSome P way asked Done wrote (Err (Ss e)) = IsUnwritten wrote
JobOfSome P way asked Done wrote result = (gr_text ss_text : List ℕ) × AreAnswered P way gr_text (asked ss_text) (λ graph sources. Done wrote graph sources result)

-- If the device of the graph has failed, then it may fail, and a list that is refused may be.
abbrev pub MayFail : (gr : Failing) → (sources targets : DimacsError → Type 0) → BatchError → Type 0
MayFail gr sources targets (Gr e) = MayReadGraph gr e
MayFail gr sources targets (Ss e) = sources e
MayFail gr sources targets (Targets e) = targets e
MayFail gr sources targets (Pairs e) = ⊥
MayFail gr sources targets _ = Unit {0}
