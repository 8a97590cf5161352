-- What the job of `pairs` answers to the texts of its files, and what is written then.
use Rattle.std.specs.Prelude.{ℕ, Bool, true, false, List, Option, Some, None, Result, Ok, Err, IfOk}
use Rattle.sp_text.specs.declared.faults.DimacsError.{DimacsError}
use Rattle.sp_dimacs.specs.Pairs.{PairsRead}
use Rattle.sp_network.specs.declared.directions.Direction.{Direction}
use Rattle.sp_jobs.specs.declared.answers.Summary.{Summary}
use Rattle.sp_jobs.specs.declared.answers.BatchError.{BatchError}
use Rattle.sp_jobs.specs.Network.{IsNetworkRefused}
use Rattle.sp_jobs.specs.PairAnswers.{PairKind, route_kind, word_kind}
use Rattle.sp_pairs.specs.Pairs.{PairsTold, PairsOfSome}
use Rattle.sp_command.specs.declared.faults.FileKind.TheVariants as file
use Rattle.sp_command.specs.Causes.{Paths}
use Rattle.sp_command.specs.Scene.{Scene, HasText}
use Rattle.sp_cli.specs.declared.pairs.PairsCommand.{PairsCommand}
use Rattle.sp_cli.specs.Told.{wrote_in}

-- A reader refuses the text of a list of pairs, whatever it leaves of it, and whether its device fails or not.
abbrev pub IsPairsRefused : (P : ℕ) → (text : List ℕ) → DimacsError → Type 0
IsPairsRefused P text e = (left : Option (List ℕ)) × (failed : Bool) × PairsRead P text left failed (Err e)

-- The answer belongs to the texts of a graph and of pairs: the answers of all pairs were written; or nothing, where a text is refused or
-- a number is no vertex, or memory was refused; or a beginning, where the writer failed.
abbrev pub IsOfPairs : PairKind → (P : ℕ) → (way : Direction) → (gr pairs : List ℕ) → Scene → Result Summary BatchError → Type 0
IsOfPairs kind P way gr pairs s answer = PairsTold kind P way gr pairs (IsNetworkRefused P way gr) (IsPairsRefused P pairs) (wrote_in s) answer

-- Where all is written, some texts spell a graph and pairs, and exactly the text of their answers was written.
abbrev pub IsOfSomePairs : PairKind → (P : ℕ) → (way : Direction) → Scene → Result Summary BatchError → Type 0
IsOfSomePairs kind P way s answer = IfOk answer (λ summary. PairsOfSome kind P way (wrote_in s) (Ok summary))

-- The answer belongs to the texts of the graph of this path and of the pairs, where they are known.
abbrev pub PairsAnswersOf : PairKind → (P : ℕ) → PairsCommand → Direction → (graph : List ℕ) → Scene → Result Summary BatchError → Type 0
PairsAnswersOf kind P given way graph s answer = ((gr pairs : List ℕ) → HasText s graph gr → HasText s given.pairs.now pairs → IsOfPairs kind P way gr pairs s answer) × IsOfSomePairs kind P way s answer

-- What is told of each pair: its route if the command asks for routes, and otherwise its target's word.
abbrev pub kind_of : (routes : Bool) → PairKind
kind_of true = route_kind
kind_of false = word_kind

-- The answer is what the command asks for.
abbrev pub PairsAnswers : (P : ℕ) → PairsCommand → Direction → (graph : List ℕ) → Scene → Result Summary BatchError → Type 0
PairsAnswers P given way graph s answer = PairsAnswersOf (kind_of given.routes) P given way graph s answer

-- the path of the pairs
abbrev pub pairs_paths : PairsCommand → Paths
pairs_paths given file.Pairs = Some given.pairs.now
pairs_paths given _ = None
