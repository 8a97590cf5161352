-- From what a job answers to what it is handed, to what it answers to the files of its command.
use Rattle.std.proofs.Common.{◌≡◌, ℕ, true, List, ◌∙◌, Option, None, Some, Result, Ok, Err, refl, subst}
use Rattle.std.specs.Prelude.{IfOk, IfErr}
use Rattle.sp_device.specs.Failing.{Failing}
use Rattle.sp_device.specs.declared.devices.Read.{Ghosts as Reader}
use Rattle.sp_text.specs.declared.faults.DimacsError.{DimacsError}
use Rattle.sp_paths.specs.Paths.{Graph}
use Rattle.sp_network.specs.declared.directions.Direction.{Direction}
use Rattle.sp_network.specs.declared.faults.NetworkFault.TheVariants.{Text, Packed}
use Rattle.sp_jobs.specs.declared.answers.Summary.{Summary}
use Rattle.sp_jobs.specs.declared.answers.BatchError.{BatchError}
use Rattle.sp_jobs.specs.declared.answers.BatchError.TheVariants.{Gr, Ss, Targets, Pairs, NoSuchVertex, Memory, Write}
use Rattle.sp_jobs.specs.declared.listing.Listing.{Listing}
use Rattle.sp_jobs.specs.Listing.{AskedList, AreAsked, AreRefused, HasLeft, MayRefuse, asked_in}
use Rattle.sp_jobs.specs.Network.{IsGraphRefused}
use Rattle.sp_jobs.specs.Answered.{JobDone, JobAnswered, JobOfSome, MayFail}
use Rattle.sp_jobs.specs.Matrix.{IsMatrixTo, IsMatrixToSome}
use Rattle.sp_command.specs.declared.faults.FileKind.TheVariants as file
use Rattle.sp_command.specs.Causes.{Paths, IsBorneOut, MayBeRefused}
use Rattle.sp_command.specs.Scene.{Files, Scene, IsOpened}
use Rattle.sp_options.specs.declared.lists.Lists.{Lists}
use Rattle.sp_options.specs.declared.sources.Sources.{Sources}
use Rattle.sp_options.specs.Ends.{fault_of}
use Rattle.sp_cli.specs.Told.{wrote_in, IsOpenedList, asked_of, IsAnsweredIn, IsAnswered, NoneFar, NoVertex}
use Rattle.sp_cli.specs.Commands.{paths_in}
use Rattle.sp_cli.specs.Answers.{IsOfSources, IsOfSomeTexts, source_paths, MatrixAnswers, list_paths}

-- What a device leaves of the text of a graph that is refused is something.
in_scene : {G : Type 0} (s : Scene) (way : Direction) (P : ℕ) (job : JobDone) (gr_text : List ℕ) (asked : AskedList) (g : Reader G) (gr : G) (answer : Result Summary BatchError)
    → JobAnswered P way gr_text asked (IsGraphRefused P way gr_text g gr) (AreRefused P asked) job (wrote_in s) answer → IsAnsweredIn s P way job gr_text asked answer
in_scene s way P job gr_text asked g gr (Ok summary) is = is
in_scene s way P job gr_text asked g gr (Err (NoSuchVertex v role)) is = is
in_scene s way P job gr_text asked g gr (Err Memory) is = is
in_scene s way P job gr_text asked g gr (Err Write) is = is
in_scene s way P job gr_text asked g gr (Err (Gr e)) (read, same) = ((g.left gr, g.has_failed gr, read), same)
in_scene s way P job gr_text asked g gr (Err (Ss e)) is = is
in_scene s way P job gr_text asked g gr (Err (Targets e)) is = is
in_scene s way P job gr_text asked g gr (Err (Pairs e)) is = is

-- A list that is opened asks for what its words ask for.
pub of_opened : {G H : Type 0} {h : Reader H} {files : Files} {list : Sources} {opened : Listing H} (g : Reader G) (s : Scene) (way : Direction) (P : ℕ) (job : JobDone) (gr_text text : List ℕ) (gr : G) (answer : Result Summary BatchError) → IsOpenedList h files list opened
    → JobAnswered P way gr_text (asked_in opened text) (IsGraphRefused P way gr_text g gr) (AreRefused P (asked_in opened text)) job (wrote_in s) answer → IsAnsweredIn s P way job gr_text (asked_of list text) answer
of_opened {opened = opened} g s way P job gr_text text gr answer is answered =
    subst (λ a. IsAnsweredIn s P way job gr_text a answer) (is.asks text) (in_scene s way P job gr_text (asked_in opened text) g gr answer answered)

-- Where all is written, some texts have what was done, or something that follows of it.
pub of_some_opened : {G : Type 0} {g : Reader G} {files : Files} {list : Sources} {opened : Listing G} → IsOpenedList g files list opened → (s : Scene) (way : Direction) (P : ℕ) (job other : JobDone)
    → ((graph : Graph) (sources : List ℕ) (summary : Summary) → job (wrote_in s) graph sources (Ok summary) → other (wrote_in s) graph sources (Ok summary))
    → (answer : Result Summary BatchError) → JobOfSome P way (asked_in opened) job (wrote_in s) answer → IsOfSomeTexts P way other list s answer
of_some_opened is s way P job other follows (Ok summary) (gr_text, text, are) = (
  gr_text,
  text,
  record {
    graph = are.graph;
    sources = are.sources;
    spells_graph = are.spells_graph;
    are_asked = subst (λ a. AreAsked P a are.sources) (is.asks text) are.are_asked;
    done = follows are.graph are.sources summary are.done;
  },
)
of_some_opened is s way P job other follows (Err error) some = tt

-- A fault of a job is borne out.
pub borne_out : (way : Direction) (P : ℕ) (asked : List ℕ → AskedList) (job : JobDone) (sources targets : DimacsError → Type 0) (paths : Paths) (s : Scene) (graph : List ℕ) (gr : Failing)
    → gr ≡ s.files.failing graph
    → ((e : DimacsError) → sources e → MayBeRefused (paths_in graph paths) s.files file.Sources e) → ((e : DimacsError) → targets e → MayBeRefused (paths_in graph paths) s.files file.Targets e)
    → ((network : Graph) (numbers : List ℕ) → job (wrote_in s) network numbers (Err Write) → s.failed ≡ true)
    → (answer : Result Summary BatchError) → IfErr answer (MayFail gr sources targets) → JobOfSome P way asked job (wrote_in s) answer → IfErr answer (λ e. IsBorneOut (paths_in graph paths) NoVertex s (fault_of e))
borne_out way P asked job sources targets paths s graph gr gr_fails of_sources of_targets failed (Ok summary) may is = tt
borne_out way P asked job sources targets paths s graph gr gr_fails of_sources of_targets failed (Err (NoSuchVertex v role)) may is = tt
borne_out way P asked job sources targets paths s graph gr gr_fails of_sources of_targets failed (Err Memory) may is = tt
borne_out way P asked job sources targets paths s graph gr gr_fails of_sources of_targets failed (Err Write) may (_, _, are) = failed are.graph are.sources are.done
borne_out way P asked job sources targets paths s graph gr gr_fails of_sources of_targets failed (Err (Gr (Text e))) may is = (graph, refl, λ read never. may read (gr_fails ∙ never))
borne_out way P asked job sources targets paths s graph gr gr_fails of_sources of_targets failed (Err (Gr (Packed e))) may is = (graph, refl, λ read never. may read (gr_fails ∙ never))
borne_out way P asked job sources targets paths s graph gr gr_fails of_sources of_targets failed (Err (Ss e)) may is = of_sources e may
borne_out way P asked job sources targets paths s graph gr gr_fails of_sources of_targets failed (Err (Targets e)) may is = of_targets e may
borne_out way P asked job sources targets paths s graph gr gr_fails of_sources of_targets failed (Err (Pairs e)) may is = absurd may

-- What a job of a graph and a list of sources answers, of what it answers to what it is handed.
of_list : {G H : Type 0} {g : Reader G} {h : Reader H} {s : Scene} {graph : List ℕ} {sources : Sources} {gr : G} {opened : Listing H} (way : Direction) (P : ℕ) (limit : Option ℕ) (job : JobDone) (left : G) (answer : Result Summary BatchError)
    → IsOpened g s.files graph gr → IsOpenedList h s.files sources opened
    → ((network : Graph) (numbers : List ℕ) (summary : Summary) → job (wrote_in s) network numbers (Ok summary) → NoneFar limit summary)
    → ((network : Graph) (numbers : List ℕ) → job (wrote_in s) network numbers (Err Write) → s.failed ≡ true)
    → ((gr_text text : List ℕ) → g.left gr ≡ Some gr_text → HasLeft h opened text
    → JobAnswered P way gr_text (asked_in opened text) (IsGraphRefused P way gr_text g left) (AreRefused P (asked_in opened text)) job (wrote_in s) answer)
    → JobOfSome P way (asked_in opened) job (wrote_in s) answer
    → IfErr answer (MayFail (g.failing gr) (MayRefuse h opened) (λ e. ⊥))
    → IsAnswered (paths_in graph (source_paths sources)) limit (IsOfSources P way job graph sources s) s answer
of_list {g = g} {s = s} {graph = graph} {sources = sources} {opened = opened} way P limit job left answer gr_is list_is near failed exact found may = record {
  answered = (λ gr_text text gr_has text_has. of_opened g s way P job gr_text text left answer list_is (exact gr_text text (gr_is.gives gr_text gr_has) (list_is.gives text text_has)), of_some_opened list_is s way P job job (λ network numbers summary is. is) answer found);
  near = near_of answer found;
  borne_out = borne_out way P (asked_in opened) job _ (λ e. ⊥) (source_paths sources) s graph _ gr_is.failing list_is.refusable (λ e is. absurd is) failed answer may found;
}
  where
    near_of : (a : Result Summary BatchError) → JobOfSome P way (asked_in opened) job (wrote_in s) a → IfOk a (NoneFar limit)
    near_of (Ok summary) (_, _, are) = near are.graph are.sources summary are.done
    near_of (Err e) is = tt

-- The same where it is asked for this limit.
pub of_sources : {G H : Type 0} {g : Reader G} {h : Reader H} {s : Scene} {graph : List ℕ} {sources : Sources} {gr : G} {opened : Listing H} {asked limit : Option ℕ} (way : Direction) (P : ℕ) (job : Option ℕ → JobDone) (left : G) (answer : Result Summary BatchError)
    → asked ≡ limit → IsOpened g s.files graph gr → IsOpenedList h s.files sources opened
    → ((network : Graph) (numbers : List ℕ) (summary : Summary) → job asked (wrote_in s) network numbers (Ok summary) → NoneFar asked summary)
    → ((network : Graph) (numbers : List ℕ) → job asked (wrote_in s) network numbers (Err Write) → s.failed ≡ true)
    → ((gr_text text : List ℕ) → g.left gr ≡ Some gr_text → HasLeft h opened text
    → JobAnswered P way gr_text (asked_in opened text) (IsGraphRefused P way gr_text g left) (AreRefused P (asked_in opened text)) (job asked) (wrote_in s) answer)
    → JobOfSome P way (asked_in opened) (job asked) (wrote_in s) answer
    → IfErr answer (MayFail (g.failing gr) (MayRefuse h opened) (λ e. ⊥))
    → IsAnswered (paths_in graph (source_paths sources)) limit (IsOfSources P way (job limit) graph sources s) s answer
of_sources {s = s} {graph = graph} {sources = sources} {asked = asked} way P job left answer is gr_is list_is near failed exact found may =
    subst (λ l. IsAnswered (paths_in graph (source_paths sources)) l (IsOfSources P way (job l) graph sources s) s answer) is (of_list way P asked (job asked) left answer gr_is list_is near failed exact found may)

-- Without a limit nothing is said of vertices that are too far.
pub any_far : (answer : Result Summary BatchError) → IfOk answer (NoneFar None)
any_far (Ok summary) = tt
any_far (Err e) = tt

-- What a job of a graph and two lists answers.
pub of_lists : {G H : Type 0} {g : Reader G} {h : Reader H} {s : Scene} {graph : List ℕ} {lists : Lists} {gr : G} {starts ends : Listing H} (way : Direction) (P : ℕ) (left : G) (answer : Result Summary BatchError)
    → IsOpened g s.files graph gr → IsOpenedList h s.files lists.sources starts → IsOpenedList h s.files lists.targets ends
    → ((gr_text starts_text ends_text : List ℕ) → g.left gr ≡ Some gr_text → HasLeft h starts starts_text → HasLeft h ends ends_text
    → JobAnswered P way gr_text (asked_in starts starts_text) (IsGraphRefused P way gr_text g left) (AreRefused P (asked_in starts starts_text)) (IsMatrixTo P (asked_in ends ends_text)) (wrote_in s) answer)
    → JobOfSome P way (asked_in starts) (IsMatrixToSome P (asked_in ends)) (wrote_in s) answer
    → IfErr answer (MayFail (g.failing gr) (MayRefuse h starts) (MayRefuse h ends))
    → IsAnswered (paths_in graph (list_paths lists)) None (MatrixAnswers P lists way graph s) s answer
of_lists {g = g} {s = s} {graph = graph} {lists = lists} {starts = starts} {ends = ends} way P left answer gr_is starts_are ends_are exact found may = record {
  answered = (
    λ ends_text ends_have gr_text text gr_has text_has.
        subst (λ a. IsAnsweredIn s P way (IsMatrixTo P a) gr_text (asked_of lists.sources text) answer) (ends_are.asks ends_text)
        (of_opened g s way P (IsMatrixTo P (asked_in ends ends_text)) gr_text text left answer starts_are (exact gr_text text ends_text (gr_is.gives gr_text gr_has) (starts_are.gives text text_has) (ends_are.gives ends_text ends_have))),
    of_some_opened starts_are s way P (IsMatrixToSome P (asked_in ends)) (IsMatrixToSome P (asked_of lists.targets))
        (λ network numbers summary is. (is.0, is.1, subst (λ a. AreAsked P a is.1) (ends_are.asks is.0) is.2, is.3)) answer found,
  );
  near = any_far answer;
  borne_out = borne_out way P (asked_in starts) (IsMatrixToSome P (asked_in ends)) _ _ (list_paths lists) s graph _ gr_is.failing starts_are.refusable ends_are.refusable (λ network numbers is. is.3.1) answer may found;
}
