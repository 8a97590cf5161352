-- The answers for a graph whose arcs were put in another order.
use Rattle.std.proofs.Common.{◌≡◌, ℕ, ◌≤◌, true, List, [], ◌∷◌, ◌++◌, length, Option, Some, None, Result, Ok, Err, sym, ap, ◌∙◌, subst}
use Rattle.std.specs.Prelude.{All, IfSome}
use Rattle.std.specs.Io.KnownBytes.{Appends}
use Rattle.sp_word.specs.Word.{max_dist, max_pred, is_layout}
use Rattle.sp_paths.specs.Paths.{Graph, IsGraph, IsVertex}
use Rattle.sp_paths.specs.Bags.{AreSame}
use Rattle.sp_paths.proofs.SameArcs.{same_arcs_same_answers}
use Rattle.sp_answer.specs.Table.{table_of}
use Rattle.sp_device.specs.declared.devices.Write.{Ghosts as Writer}
use Rattle.sp_device.proofs.TextSteps.{begun_more}
use Rattle.sp_jobs.specs.declared.answers.Summary.{Summary}
use Rattle.sp_jobs.specs.declared.answers.BatchError.{BatchError}
use Rattle.sp_jobs.specs.declared.answers.BatchError.TheVariants.{Gr, Ss, Targets, Pairs, NoSuchVertex, Memory, Write}
use Rattle.sp_jobs.specs.Batch.{TreeAnswer, TreeOf, FarFrom, IsTreeAnswer, AreTreeAnswers, batch_text, HasBegunBatch, IsBatch}
use Rattle.sp_jobs.specs.Places.{AreNumbered}
use Rattle.sp_jobs.specs.Answered.{wrote_by}
use Rattle.sp_jobs.proofs.Files.{itself}
use Rattle.sp_jobs.specs.Told.{HasBegunFirst, AreAllAnswered}
use Rattle.sp_jobs.proofs.ToldInOrder.{all_behind, none_begun}
use Rattle.sp_jobs.specs.Trees.{IsTreeTold}
use Rattle.sp_jobs.proofs.AnswersInOrder.{answers_both, text_both, answers_told}
use Rattle.sp_jobs.proofs.PartsExist.{same_part}
use Rattle.sp_jobs.proofs.AnswersExist.{answers_exist}

same_answer : (P : ℕ) (limit : Option ℕ) (g h : Graph) (s : ℕ) (answer : TreeAnswer) → AreSame g h → IsTreeAnswer P limit g s answer → IsTreeAnswer P limit h s answer
same_answer P None g h s (TreeOf t) same is =
    let all = same_arcs_same_answers g h same in (
      is.0,
      record {
        vertex = rw (← same.n) is.1.vertex;
        n = is.1.n ∙ same.n;
        source = is.1.source;
        tree = all.tree s _ is.1.tree;
        far = all.far s (max_dist P) None is.1.far;
      },
    )
same_answer P None g h s (FarFrom source vertex) same is = (is.0, (same_arcs_same_answers g h same).far s (max_dist P) (Some vertex) is.1)
same_answer P (Some limit) g h s (TreeOf t) same is = (
  is.0,
  record {
    vertex = rw (← same.n) is.1.vertex;
    n = is.1.n ∙ same.n;
    source = is.1.source;
    tree = same_part g h same s limit (table_of t) is.1.tree;
  },
)
same_answer P (Some limit) g h s (FarFrom source vertex) same is = absurd is

same_all : (P : ℕ) (limit : Option ℕ) (g h : Graph) (sources : List ℕ) (answers : List TreeAnswer) → AreSame g h → AreTreeAnswers P limit g sources answers → AreTreeAnswers P limit h sources answers
same_all P limit g h [] [] same are = are
same_all P limit g h [] (a ∷ answers) same are = are
same_all P limit g h (s ∷ sources) [] same are = are
same_all P limit g h (s ∷ sources) (a ∷ answers) same are = (same_answer P limit g h s a same are.0, same_all P limit g h sources answers same are.1)

-- A graph within the limits of a run, and sources that are its vertices.
pub record AreSources (P : ℕ) (limit : Option ℕ) (g : Graph) (sources : List ℕ) : Type 0 where
  pub layout : is_layout P ≡ true
  pub most : g.n ≤ max_pred P
  pub arcs : IsGraph g
  pub limit_within : IfSome limit (λ l. l ≤ max_dist P)
  pub numbered : AreNumbered sources
  pub within : All (λ s. s ≤ g.n) sources

module _ {W : Type 0} (P : ℕ) (limit : Option ℕ) (g : Graph) (sources : List ℕ) (device : Writer W) (ok : AreSources P limit g sources) where
  -- What was begun with what the first answers of a graph with the same arcs tell is a beginning with all.
  told_begun : (graph : Graph) (old new : Option (List ℕ)) → AreSame graph g → HasBegunFirst (λ s told. IsTreeTold P limit graph s told) sources old new → HasBegunBatch P limit g sources old new
  told_begun graph old new same b =
      let t = answers_told P limit graph b.done b.all b.are in
      let first = same_all P limit graph g b.done t.answers same t.are in
      let later = all_behind (IsVertex g.n) sources b.done b.later b.parts (λ i d less. (ok.numbered.named i d less, ok.within i d less)) in
      let more = answers_exist P g ok.layout ok.most ok.arcs limit ok.limit_within b.later later in
      record {
        answers = t.answers ++ more.0;
        are = subst (λ (l : List ℕ). AreTreeAnswers P limit g l (t.answers ++ more.0)) (sym b.parts) (answers_both P limit g b.done b.later t.answers more.0 first more.1);
        begun = rw (text_both t.answers more.0) (begun_more (batch_text t.answers) (batch_text more.0) old new (rw t.text at b.begun));
      }

  -- What was answered for a graph with the same arcs was answered for this one.
  pub batch_of_same : (graph : Graph) (old new : W) (result : Result Summary BatchError) → AreSame graph g
      → AreAllAnswered (λ s told. IsTreeTold P limit graph s told) sources device old result new → IsBatch P limit (wrote_by device old new) g sources result
  batch_of_same graph old new (Ok summary) same h =
      let t = answers_told P limit graph sources h.all h.are in
      let counted = h.text.counted in (
        t.answers,
        same_all P limit graph g sources t.answers same t.are,
        subst (λ (l : List ℕ). Appends (device.written old) (device.written new) l) t.text h.text.wrote,
        record { sources = counted.sources ∙ t.count; too_far = counted.too_far ∙ t.far; bytes = counted.bytes ∙ ap length t.text },
      )
  batch_of_same graph old new (Err Memory) same begun = (ok.within, told_begun graph (device.written old) (device.written new) same begun)
  batch_of_same graph old new (Err Write) same (begun, failed) = ((ok.within, told_begun graph (device.written old) (device.written new) same begun), failed)
  batch_of_same graph old new (Err (Gr e)) same is = absurd is
  batch_of_same graph old new (Err (Ss e)) same is = absurd is
  batch_of_same graph old new (Err (Targets e)) same is = absurd is
  batch_of_same graph old new (Err (Pairs e)) same is = absurd is
  batch_of_same graph old new (Err (NoSuchVertex v role)) same is = absurd is

  -- Memory was refused before anything was written.
  pub refused_early : (old : W) → IsBatch P limit (wrote_by device old old) g sources (Err Memory)
  refused_early old = batch_of_same g old old (Err Memory) (itself g) (none_begun (λ s told. IsTreeTold P limit g s told) sources (device.written old))
