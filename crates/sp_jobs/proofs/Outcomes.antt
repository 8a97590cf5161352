-- From how a job ends to what it answers to its texts.
use Rattle.std.proofs.Common.{◌≡◌, ℕ, List, Result, Ok, Err}
use Rattle.std.specs.Prelude.{IfErr}
use Rattle.std.specs.Result.{IsErrAnd}
use Rattle.std.proofs.lemmas.Result.{err_from_is_err_and}
use Rattle.sp_device.specs.Failing.{Failing}
use Rattle.sp_text.specs.declared.faults.DimacsError.{DimacsError}
use Rattle.sp_paths.specs.Paths.{Graph}
use Rattle.sp_dimacs.specs.declared.graphs.GrFile.{GrFile}
use Rattle.sp_dimacs.specs.Graph.{graph_of}
use Rattle.sp_network.specs.Network.{directed}
use Rattle.sp_network.specs.declared.directions.Direction.{Direction}
use Rattle.sp_jobs.specs.declared.answers.Role.{Role}
use Rattle.sp_jobs.specs.declared.answers.Summary.{Summary}
use Rattle.sp_jobs.specs.declared.answers.BatchError.{BatchError}
use Rattle.sp_jobs.specs.declared.answers.BatchError.TheVariants.{Gr, Ss, Targets, Pairs, NoSuchVertex, Memory, Write}
use Rattle.sp_jobs.specs.declared.listing.Listed.{Listed}
use Rattle.sp_jobs.specs.Listing.{AskedList, numbers_of}
use Rattle.sp_jobs.specs.Network.{GraphFault, MayReadGraph}
use Rattle.sp_jobs.specs.Answered.{Wrote, IsUnwritten, IsEnd, JobDone, AreRead, AreAnswered, IsFileFault, IsGraphFault, IsListFault, JobAnswered, JobOfSome, MayFail}

-- It is no fault of a text.
abbrev pub IsLate : Result Summary BatchError → Type 0
IsLate (Err (Gr e)) = ⊥
IsLate (Err (Ss e)) = ⊥
IsLate (Err (Targets e)) = ⊥
IsLate (Err (Pairs e)) = ⊥
IsLate _ = Unit {0}

-- A job that has read its texts ends so.
pub late : (Finished : Summary → Type 0) (NoVertex : ℕ → Role → Type 0) (Refused Begun : Type 0) (wrote : Wrote) (result : Result Summary BatchError) → IsEnd Finished NoVertex Refused Begun wrote result → IsLate result
late Finished NoVertex Refused Begun wrote (Ok summary) is = tt
late Finished NoVertex Refused Begun wrote (Err (NoSuchVertex v role)) is = tt
late Finished NoVertex Refused Begun wrote (Err Memory) is = tt
late Finished NoVertex Refused Begun wrote (Err Write) is = tt
late Finished NoVertex Refused Begun wrote (Err (Gr e)) is = absurd is
late Finished NoVertex Refused Begun wrote (Err (Ss e)) is = absurd is
late Finished NoVertex Refused Begun wrote (Err (Targets e)) is = absurd is
late Finished NoVertex Refused Begun wrote (Err (Pairs e)) is = absurd is

-- What holds of each such end holds of one.
pub by_end : (Says : Result Summary BatchError → Type 0) (result : Result Summary BatchError) → IsLate result
    → ((summary : Summary) → Says (Ok summary)) → ((v : ℕ) (role : Role) → Says (Err (NoSuchVertex v role))) → Says (Err Memory) → Says (Err Write) → Says result
by_end Says (Ok summary) is ok vertex memory write = ok summary
by_end Says (Err (NoSuchVertex v role)) is ok vertex memory write = vertex v role
by_end Says (Err Memory) is ok vertex memory write = memory
by_end Says (Err Write) is ok vertex memory write = write
by_end Says (Err (Gr e)) is ok vertex memory write = absurd is
by_end Says (Err (Ss e)) is ok vertex memory write = absurd is
by_end Says (Err (Targets e)) is ok vertex memory write = absurd is
by_end Says (Err (Pairs e)) is ok vertex memory write = absurd is

-- For what was read that was done.
pub done_for : {P : ℕ} {way : Direction} {gr_text : List ℕ} {asked : AskedList} {files : GrFile × Listed} {Done : Graph → List ℕ → Type 0} → AreRead P way gr_text asked files → Done (directed way (graph_of files.0)) (numbers_of files.1) → AreAnswered P way gr_text asked Done
done_for {way = way} {files = files} read done = record { graph = directed way (graph_of files.0); sources = numbers_of files.1; spells_graph = read.spells_graph; are_asked = read.are_asked; done = done }

-- What is done for a graph and sources is the answer to a text that spells the graph, and to what asks for the sources.
pub answered : {P : ℕ} {way : Direction} (Done : JobDone) {wrote : Wrote} {gr_text : List ℕ} {asked : AskedList} (NoGraph : GraphFault → Type 0) (NoList : DimacsError → Type 0) (result : Result Summary BatchError) → IsLate result
    → AreAnswered P way gr_text asked (λ graph sources. Done wrote graph sources result) → JobAnswered P way gr_text asked NoGraph NoList Done wrote result
answered {P} {way} Done {wrote} {gr_text} {asked} NoGraph NoList result is =
    by_end (λ r. AreAnswered P way gr_text asked (λ graph sources. Done wrote graph sources r) → JobAnswered P way gr_text asked NoGraph NoList Done wrote r) result is (λ summary are. are) (λ v role are. are) (λ are. are) (λ are. are)

pub of_some : {P : ℕ} {way : Direction} (Done : JobDone) {wrote : Wrote} (asked : List ℕ → AskedList) (gr_text ss_text : List ℕ) (result : Result Summary BatchError) → IsLate result
    → AreAnswered P way gr_text (asked ss_text) (λ graph sources. Done wrote graph sources result) → JobOfSome P way asked Done wrote result
of_some {P} {way} Done {wrote} asked gr_text ss_text result is =
    by_end (λ r. AreAnswered P way gr_text (asked ss_text) (λ graph sources. Done wrote graph sources r) → JobOfSome P way asked Done wrote r) result is
    (λ summary are. (gr_text, ss_text, are)) (λ v role are. (gr_text, ss_text, are)) (λ are. (gr_text, ss_text, are)) (λ are. (gr_text, ss_text, are))

-- What holds of each fault of the graph's text, and of each of the list of the sources, holds of one.
pub by_fault : (Says : BatchError → Type 0) (OfGraph : GraphFault → Type 0) (OfSources : DimacsError → Type 0) (e : BatchError) → IsFileFault OfGraph OfSources e
    → ((f : GraphFault) → OfGraph f → Says (Gr f)) → ((f : DimacsError) → OfSources f → Says (Ss f)) → Says e
by_fault Says OfGraph OfSources (Gr f) is graph sources = graph f is
by_fault Says OfGraph OfSources (Ss f) is graph sources = sources f is
by_fault Says OfGraph OfSources (Targets f) is graph sources = absurd is
by_fault Says OfGraph OfSources (Pairs f) is graph sources = absurd is
by_fault Says OfGraph OfSources (NoSuchVertex v role) is graph sources = absurd is
by_fault Says OfGraph OfSources Memory is graph sources = absurd is
by_fault Says OfGraph OfSources Write is graph sources = absurd is

-- What holds of each fault of the graph's text holds of one.
pub by_graph_fault : (Says : BatchError → Type 0) (OfGraph : GraphFault → Type 0) (e : BatchError) → IsGraphFault OfGraph e → ((f : GraphFault) → OfGraph f → Says (Gr f)) → Says e
by_graph_fault Says OfGraph e is graph = by_fault Says OfGraph (λ f. ⊥) e is graph (λ f no. absurd no)

-- A fault of the graph's text is one of the two.
pub of_graph : (OfGraph : GraphFault → Type 0) (OfSources : DimacsError → Type 0) (e : BatchError) → IsGraphFault OfGraph e → IsFileFault OfGraph OfSources e
of_graph OfGraph OfSources e is = by_graph_fault (IsFileFault OfGraph OfSources) OfGraph e is (λ f no. no)

-- What holds of a fault holds of the exit of a `?` that returns it.
at_exit : {e : BatchError} (Says : Result Summary BatchError → Type 0) (result : Result Summary BatchError) → IsErrAnd result (λ y. y ≡ e) → Says (Err e) → Says result
at_exit Says result exit says = let p = err_from_is_err_and result exit in rw (p.1, p.2) says

-- A fault of a text that a `?` returns is the answer to the texts, where nothing was written.
pub refused : (Done : JobDone) (P : ℕ) (way : Direction) (gr_text : List ℕ) (asked : AskedList) (NoGraph : GraphFault → Type 0) (NoList : DimacsError → Type 0) (wrote : Wrote) (e : BatchError) (result : Result Summary BatchError)
    → IsErrAnd result (λ y. y ≡ e) → IsFileFault NoGraph (IsListFault P way gr_text NoList) e → IsUnwritten wrote → JobAnswered P way gr_text asked NoGraph NoList Done wrote result
refused Done P way gr_text asked NoGraph NoList wrote e result exit is same =
    let Says : Result Summary BatchError → Type 0 = λ r. JobAnswered P way gr_text asked NoGraph NoList Done wrote r in
    at_exit Says result exit (by_fault (λ f. Says (Err f)) NoGraph (IsListFault P way gr_text NoList) e is (λ f no. (no, same)) (λ f no. (no.0, no.1, same)))

pub refused_some : (Done : JobDone) (P : ℕ) (way : Direction) (asked : List ℕ → AskedList) (OfGraph : GraphFault → Type 0) (OfSources : DimacsError → Type 0) (wrote : Wrote) (e : BatchError) (result : Result Summary BatchError)
    → IsErrAnd result (λ y. y ≡ e) → IsFileFault OfGraph OfSources e → IsUnwritten wrote → JobOfSome P way asked Done wrote result
refused_some Done P way asked OfGraph OfSources wrote e result exit is same =
    let Says : Result Summary BatchError → Type 0 = λ r. JobOfSome P way asked Done wrote r in
    at_exit Says result exit (by_fault (λ f. Says (Err f)) OfGraph OfSources e is (λ f no. same) (λ f no. same))

-- It tells of the devices of these texts alone.
pub fault_may_fail : (gr : Failing) (sources targets : DimacsError → Type 0) (e : BatchError) (result : Result Summary BatchError) → IsErrAnd result (λ y. y ≡ e) → IsFileFault (MayReadGraph gr) sources e → IfErr result (MayFail gr sources targets)
fault_may_fail gr sources targets e result exit is =
    at_exit (λ r. IfErr r (MayFail gr sources targets)) result exit (by_fault (MayFail gr sources targets) (MayReadGraph gr) sources e is (λ f no. no) (λ f no. no))

-- A job that has read its texts tells of no device.
pub may_fail : (gr : Failing) (sources targets : DimacsError → Type 0) (result : Result Summary BatchError) → IsLate result → IfErr result (MayFail gr sources targets)
may_fail gr sources targets result is = by_end (λ r. IfErr r (MayFail gr sources targets)) result is (λ summary. tt) (λ v role. tt) tt tt
