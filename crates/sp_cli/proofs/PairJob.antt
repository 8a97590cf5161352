-- What a job of pairs answers.
use Rattle.std.proofs.Common.{◌≡◌, ℕ, List, ◌∙◌, None, Some, Result, Ok, Err, refl}
use Rattle.std.specs.Prelude.{IfErr}
use Rattle.sp_device.specs.declared.devices.Read.{Ghosts as Reader}
use Rattle.sp_device.specs.declared.devices.Write.{Ghosts as Writer}
use Rattle.sp_network.specs.declared.directions.Direction.{Direction}
use Rattle.sp_network.specs.declared.faults.NetworkFault.TheVariants.{Text, Packed}
use Rattle.sp_jobs.specs.declared.answers.Summary.{Summary}
use Rattle.sp_jobs.specs.declared.answers.BatchError.{BatchError}
use Rattle.sp_jobs.specs.declared.answers.BatchError.TheVariants.{Gr, Ss, Targets, Pairs, NoSuchVertex, Memory, Write}
use Rattle.sp_jobs.specs.Answered.{wrote_by}
use Rattle.sp_jobs.specs.PairAnswers.{PairKind}
use Rattle.sp_pairs.specs.Pairs.{PairsAnswered, PairsOfSome, MayFail}
use Rattle.sp_command.specs.Causes.{IsBorneOut}
use Rattle.sp_command.specs.Scene.{Files, IsOpened}
use Rattle.sp_options.specs.Ends.{fault_of}
use Rattle.sp_cli.specs.declared.pairs.PairsCommand.{PairsCommand}
use Rattle.sp_cli.specs.Told.{IsAnswered, NoVertex, scene_by}
use Rattle.sp_cli.specs.Commands.{paths_in}
use Rattle.sp_cli.specs.PairsAnswers.{PairsAnswersOf, IsOfPairs, IsOfSomePairs, pairs_paths}
use Rattle.sp_cli.proofs.Jobs.{any_far}

module _ {G H W : Type 0} (kind : PairKind) (g : Reader G) (h : Reader H) (w : Writer W) (P : ℕ) (way : Direction) (files : Files) (old new : W) where
  of_some : (answer : Result Summary BatchError) → PairsOfSome kind P way (wrote_by w old new) answer → IsOfSomePairs kind P way (scene_by files w old new) answer
  of_some (Ok summary) is = is
  of_some (Err error) is = tt

  -- What devices leave of texts that are refused is something.
  told : (gr_text list_text : List ℕ) (gr : G) (pairs : H) (answer : Result Summary BatchError) → PairsAnswered kind P way gr_text list_text g gr h pairs (wrote_by w old new) answer → IsOfPairs kind P way gr_text list_text (scene_by files w old new) answer
  told gr_text list_text gr pairs (Ok summary) is = is
  told gr_text list_text gr pairs (Err (NoSuchVertex v role)) is = is
  told gr_text list_text gr pairs (Err Memory) is = is
  told gr_text list_text gr pairs (Err Write) is = is
  told gr_text list_text gr pairs (Err (Gr e)) (read, same) = ((g.left gr, g.has_failed gr, read), same)
  told gr_text list_text gr pairs (Err (Pairs e)) (holds, read, same) = (holds, (h.left pairs, h.has_failed pairs, read), same)
  told gr_text list_text gr pairs (Err (Ss e)) is = is
  told gr_text list_text gr pairs (Err (Targets e)) is = is

  -- A fault is borne out by files that were opened.
  borne_out : (graph : List ℕ) (given : PairsCommand) (gr : G) (pairs : H) → IsOpened g files graph gr → IsOpened h files given.pairs.now pairs → (answer : Result Summary BatchError)
      → IfErr answer (MayFail (g.failing gr) (h.failing pairs)) → PairsOfSome kind P way (wrote_by w old new) answer → IfErr answer (λ e. IsBorneOut (paths_in graph (pairs_paths given)) NoVertex (scene_by files w old new) (fault_of e))
  borne_out graph given gr pairs gr_is pairs_are (Ok summary) may is = tt
  borne_out graph given gr pairs gr_is pairs_are (Err (NoSuchVertex v role)) may is = tt
  borne_out graph given gr pairs gr_is pairs_are (Err Memory) may is = tt
  borne_out graph given gr pairs gr_is pairs_are (Err Write) may (_, _, are) = are.done.1
  borne_out graph given gr pairs gr_is pairs_are (Err (Gr (Text e))) may is = (graph, refl, λ read never. may read (gr_is.failing ∙ never))
  borne_out graph given gr pairs gr_is pairs_are (Err (Gr (Packed e))) may is = (graph, refl, λ read never. may read (gr_is.failing ∙ never))
  borne_out graph given gr pairs gr_is pairs_are (Err (Pairs e)) may is = (given.pairs.now, refl, λ read never. may read (pairs_are.failing ∙ never))
  borne_out graph given gr pairs gr_is pairs_are (Err (Ss e)) may (_, _, are) = absurd are.done
  borne_out graph given gr pairs gr_is pairs_are (Err (Targets e)) may (_, _, are) = absurd are.done

-- What it answers, of what it answers to the devices that it is handed.
pub of_pairs : {kind : PairKind} {way : Direction} {G H W : Type 0} {g : Reader G} {h : Reader H} {files : Files} {graph : List ℕ} {gr : G} {pairs : H} (given : PairsCommand) (w : Writer W) (P : ℕ) (old new : W) (gr_left : G) (pairs_left : H) (answer : Result Summary BatchError)
    → IsOpened g files graph gr → IsOpened h files given.pairs.now pairs
    → ((gr_text text : List ℕ) → g.left gr ≡ Some gr_text → h.left pairs ≡ Some text → PairsAnswered kind P way gr_text text g gr_left h pairs_left (wrote_by w old new) answer)
    → PairsOfSome kind P way (wrote_by w old new) answer → IfErr answer (MayFail (g.failing gr) (h.failing pairs))
    → IsAnswered (paths_in graph (pairs_paths given)) None (PairsAnswersOf kind P given way graph (scene_by files w old new)) (scene_by files w old new) answer
of_pairs {kind = kind} {way = way} {g = g} {h = h} {files = files} {graph = graph} {gr = gr} {pairs = pairs} given w P old new gr_left pairs_left answer gr_is pairs_are exact found may = record {
  answered = (λ gr_text text gr_has text_has. told kind g h w P way files old new gr_text text gr_left pairs_left answer (exact gr_text text (gr_is.gives gr_text gr_has) (pairs_are.gives text text_has)), of_some kind g h w P way files old new answer found);
  near = any_far answer;
  borne_out = borne_out kind g h w P way files old new graph given gr pairs gr_is pairs_are answer may found;
}
