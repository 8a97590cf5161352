-- From the texts of files to what is said of them.
use Rattle.std.proofs.Common.{◌≡◌, ℕ, ◌<◌, Bool, true, false, List, length, Option, Result, Ok, Err, refl, sym, inl, inr}
use Rattle.std.specs.Prelude.{◌⊎◌, IfOk, IfErr}
use Rattle.sp_text.specs.Text.{items_of}
use Rattle.sp_text.specs.Lines.{lines}
use Rattle.sp_paths.specs.Paths.{Graph, IsGraph}
use Rattle.sp_paths.specs.Bags.{AreSame}
use Rattle.sp_network.specs.declared.directions.Direction.{Direction}
use Rattle.sp_network.specs.declared.faults.NetworkFault.TheVariants.{Text, Packed}
use Rattle.sp_device.specs.Failing.{Failing}
use Rattle.sp_device.specs.declared.devices.Read.{Ghosts as Reader}
use Rattle.sp_jobs.specs.declared.answers.BatchError.{BatchError}
use Rattle.sp_jobs.specs.declared.answers.BatchError.TheVariants.{Gr, Ss, Targets, Pairs, NoSuchVertex, Memory as BatchMemory, Write}
use Rattle.sp_jobs.specs.Network.{IsGraphRefused as IsRefused, MayReadGraph}
use Rattle.sp_jobs.specs.Answered.{IsGraphFault as OfGraph}
use Rattle.sp_packed.specs.Packed.{packed_text}
use Rattle.sp_packed.proofs.TextLaws.{one_text}
use Rattle.sp_jobs.proofs.Files.{same_graph}
use Rattle.sp_options.specs.Ends.{fault_of}
use Rattle.sp_files.specs.declared.either.TreeOrForest.{TreeOrForest}
use Rattle.sp_files.specs.TreeOrForest.{EitherRead, IsEither, either_text}
use Rattle.sp_options.specs.Within.{IsLimit}
use Rattle.sp_replay.specs.declared.replays.ReplayFile.{ReplayFile}
use Rattle.sp_machine.specs.Programme.{Programme}
use Rattle.sp_replay.specs.ReplayFormat.{offers, replay}
use Rattle.sp_replay.specs.ReplayFile.{ReplayRead}
use Rattle.sp_replay.specs.Offers.{OffersRead}
use Rattle.sp_command.specs.declared.faults.Fault.{Fault}
use Rattle.sp_command.specs.declared.faults.Fault.TheVariants as fault
use Rattle.sp_command.specs.declared.faults.FileKind.TheVariants as kind
use Rattle.sp_command.specs.Scene.{Scene, IsUnwritten}
use Rattle.sp_command.specs.Answers.{Hinders}
use Rattle.sp_tools.specs.declared.check.Verdict.{Verdict}
use Rattle.sp_tools.specs.declared.check_all.Judged.{Judged}
use Rattle.sp_tools.specs.Verdict.{IsVerdictOn}
use Rattle.sp_tools.specs.Verdicts.{FileJudged, TellsFault}
use Rattle.sp_tools.specs.Early.{IsOfGraph}
use Rattle.sp_tools.specs.Reading.{IsGraphIn, IsGraphFault, SpellsReplay}
use Rattle.sp_tools.specs.CheckAnswers.{TreeJudged, TreesJudged, AreTreesRefused}
use Rattle.sp_tools.specs.OffersAnswers.{SpellsOffers}
use Rattle.sp_tools.specs.ReplayAnswers.{IsReplayRefused, SaysOf, TellsPicture}
use Rattle.sp_tools.proofs.SameVerdicts.{same_verdict_on, same_file}

-- What was read to its end is spelled.
pub replay_spelled : {P : ℕ} (text : List ℕ) (left : Option (List ℕ)) (failed : Bool) (file : ReplayFile P) → ReplayRead text left failed (Ok file) → SpellsReplay text file
replay_spelled text left failed file (_, clean, (ps, found, is)) = (ps, items_of replay (lines text), record { faultless = clean; problem_line = found; item_lines = refl }, is)

pub offers_spelled : {P : ℕ} (text : List ℕ) (left : Option (List ℕ)) (failed : Bool) (p : Programme P) → OffersRead text left failed (Ok p) → SpellsOffers text p
offers_spelled text left failed p (_, clean, (ps, found, is)) = (ps, items_of offers (lines text), record { faultless = clean; problem_line = found; item_lines = refl }, is)

-- The graph that was built has the arcs of the one that is spelled.
pub same_as_spelled : {P : ℕ} {way : Direction} {text : List ℕ} {g : Graph} (is : IsGraphIn P way text g) → AreSame g is.graph
same_as_spelled {g = g} is = same_graph is.graph g is.n is.each

-- A refusal of a graph's file is told as a fault of the graph.
pub graph_refused : {G : Type 0} (P : ℕ) (way : Direction) (text : List ℕ) (g : Reader G) (gr : G) (e : BatchError) → OfGraph (IsRefused P way text g gr) e → IsGraphFault P way text (fault_of e)
graph_refused P way text g gr (Gr (Text e)) is = (g.left gr, g.has_failed gr, is)
graph_refused P way text g gr (Gr (Packed e)) is = (g.left gr, g.has_failed gr, is)
graph_refused P way text g gr (Ss e) is = absurd is
graph_refused P way text g gr (Targets e) is = absurd is
graph_refused P way text g gr (Pairs e) is = absurd is
graph_refused P way text g gr (NoSuchVertex v role) is = absurd is
graph_refused P way text g gr BatchMemory is = absurd is
graph_refused P way text g gr Write is = absurd is

pub graph_told : (failing : Failing) (e : BatchError) → OfGraph (MayReadGraph failing) e → IsOfGraph failing (fault_of e)
graph_told failing (Gr (Text e)) may = (refl, may)
graph_told failing (Gr (Packed e)) may = may
graph_told failing (Ss e) may = absurd may
graph_told failing (Targets e) may = absurd may
graph_told failing (Pairs e) may = absurd may
graph_told failing (NoSuchVertex v role) may = absurd may
graph_told failing BatchMemory may = absurd may
graph_told failing Write may = absurd may

-- The graph that was built has the packed text of the one that is spelled.
pub same_packed : {P : ℕ} {way : Direction} {text : List ℕ} {g : Graph} (is : IsGraphIn P way text g) → packed_text g ≡ packed_text is.graph
same_packed {g = g} is = sym (one_text is.graph g (sym is.n) is.each)

-- What is said of a tree against the rows of a graph is said of it against the graph.
pub tree_judged : {way : Direction} (P : ℕ) (limit : Option ℕ) (gr_text text : List ℕ) (g : Graph) (left : Option (List ℕ)) (failed : Bool) (held : TreeOrForest P) (verdict : Verdict)
    → IsGraph g → IsLimit P limit → IsGraphIn P way gr_text g → EitherRead text left failed (Ok held) → IsEither held → IsVerdictOn limit g held verdict → TreeJudged P way limit gr_text text verdict
tree_judged P limit gr_text text g left failed held verdict gr low is (_, block) within says = record {
  graph = is.graph;
  spelled = is.spelled;
  held = held;
  within = within;
  block = block;
  says = same_verdict_on limit g is.graph (same_as_spelled is) gr low held within verdict says;
}

-- A table is the one of its own text.
pub some_tree_judged : {way : Direction} (P : ℕ) (limit : Option ℕ) (g : Graph) (held : TreeOrForest P) (verdict : Verdict) → IsGraph g → IsLimit P limit → (text : List ℕ) × IsGraphIn P way text g → IsEither held → IsVerdictOn limit g held verdict → (gr text : List ℕ) × TreeJudged P way limit gr text verdict
some_tree_judged P limit g held verdict gr low (gr_text, is) within says = (
  gr_text,
  either_text held,
  record {
    graph = is.graph;
    spelled = is.spelled;
    held = held;
    within = within;
    block = refl;
    says = same_verdict_on limit g is.graph (same_as_spelled is) gr low held within verdict says;
  },
)

pub trees_judged : {way : Direction} (P : ℕ) (limit : Option ℕ) (gr_text text : List ℕ) (g : Graph) (all : List Judged) → IsGraphIn P way gr_text g → FileJudged P limit g text all → TreesJudged P way limit gr_text text all
trees_judged P limit gr_text text g all is says = record { graph = is.graph; spelled = is.spelled; says = same_file P limit g is.graph (same_as_spelled is) text all says }

-- What holds of what was found, or of a fault, is weakened.
pub ok_as : {A B : Type 0} (Before After : A → Type 0) (result : Result A B) → ((a : A) → Before a → After a) → IfOk result Before → IfOk result After
ok_as Before After (Ok a) more is = more a is
ok_as Before After (Err e) more is = tt

pub err_as : {A B : Type 0} (Before After : B → Type 0) (result : Result A B) → ((b : B) → Before b → After b) → IfErr result Before → IfErr result After
err_as Before After (Ok a) more is = tt
err_as Before After (Err e) more is = more e is

-- A fault of the trees keeps their verdicts from being found.
pub trees_refused : {way : Direction} (P : ℕ) (gr_text text : List ℕ) (g : Graph) (failed : Bool) → IsGraphIn P way gr_text g → (why : Fault) → TellsFault P text failed why → Hinders (AreTreesRefused P way gr_text text) why
trees_refused P gr_text text g failed graph (fault.Usage e) is = absurd is
trees_refused P gr_text text g failed graph fault.DeltaOutOfRange is = absurd is
trees_refused P gr_text text g failed graph fault.LimitOutOfRange is = absurd is
trees_refused P gr_text text g failed graph fault.InputTwice is = absurd is
trees_refused P gr_text text g failed graph fault.NoPlaces is = absurd is
trees_refused P gr_text text g failed graph (fault.OutputIsInput role) is = absurd is
trees_refused P gr_text text g failed graph (fault.CannotOpen file) is = absurd is
trees_refused P gr_text text g failed graph (fault.Input kind.Graph e) is = absurd is
trees_refused P gr_text text g failed graph (fault.Input kind.Sources e) is = absurd is
trees_refused P gr_text text g failed graph (fault.Input kind.Targets e) is = absurd is
trees_refused P gr_text text g failed graph (fault.Input kind.Pairs e) is = absurd is
trees_refused P gr_text text g failed graph (fault.Input kind.Tree e) is = ((graph.graph, graph.spelled), (failed, is))
trees_refused P gr_text text g failed graph (fault.Input kind.Replay e) is = absurd is
trees_refused P gr_text text g failed graph (fault.Input kind.Offers e) is = absurd is
trees_refused P gr_text text g failed graph (fault.Packed e) is = absurd is
trees_refused P gr_text text g failed graph (fault.NoSuchVertex v kind) is = absurd is
trees_refused P gr_text text g failed graph fault.TooManySteps is = absurd is
trees_refused P gr_text text g failed graph fault.ToTerminal is = absurd is
trees_refused P gr_text text g failed graph fault.Memory is = tt
trees_refused P gr_text text g failed graph fault.WriteFailed is = absurd is
trees_refused P gr_text text g failed graph fault.CannotWrite is = absurd is

-- What keeps a replay from being read keeps its report and its picture from being found.
pub unread : (P : ℕ) (svg : Bool) (text : List ℕ) (s : Scene) (why : Fault) → Hinders (IsReplayRefused P text) why → IsUnwritten s → SaysOf P svg text s (Err why)
unread P true text s why hinders unwritten = inl (inl (hinders, unwritten))
unread P false text s why hinders unwritten = inl (hinders, unwritten)

-- There is no picture, for want of memory or since there are too many steps.
pub undrawn : (P : ℕ) (text : List ℕ) (s : Scene) (file : ReplayFile P) (why : Fault) → SpellsReplay text file → IsUnwritten s
    → (why ≡ fault.Memory) ⊎ ((why ≡ fault.TooManySteps) × (60 < length file.steps.items)) → TellsPicture P text s (Err why)
undrawn P text s file why spelled unwritten (inl is) = rw is (inl (inl (tt, unwritten)))
undrawn P text s file why spelled unwritten (inr (is, many)) = inr (is, unwritten, (file, spelled, many))
