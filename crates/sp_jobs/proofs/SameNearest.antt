-- The answer for a graph whose arcs were put in another order.
use Rattle.std.proofs.Common.{◌≡◌, ℕ, List, Option, Some, None, Result, Ok, Err, refl, subst}
use Rattle.std.specs.Prelude.{IfErr}
use Rattle.sp_word.specs.Word.{max_dist}
use Rattle.sp_paths.specs.Paths.{Graph}
use Rattle.sp_paths.specs.Bags.{AreSame}
use Rattle.sp_device.specs.declared.devices.Write.{Ghosts as Writer}
use Rattle.sp_answer.specs.declared.answer.RunError.{RunError}
use Rattle.sp_answer.specs.declared.answer.RunError.TheVariants as run
use Rattle.sp_answer.specs.Nearest.{IsRefusal}
use Rattle.sp_jobs.specs.declared.answers.Summary.{Summary}
use Rattle.sp_jobs.specs.declared.answers.BatchError.{BatchError}
use Rattle.sp_jobs.specs.declared.answers.BatchError.TheVariants.{Gr, Ss, Targets, Pairs, NoSuchVertex, Memory, Write}
use Rattle.sp_jobs.specs.Answered.{wrote_by}
use Rattle.sp_jobs.specs.Nearest.{ForestAnswer, ForestOf, FarFromAll, IsAnswerToAll}
use Rattle.sp_jobs.specs.ForestAnswer.{IsForestAnswerWritten}
use Rattle.sp_jobs.specs.Nearest.{AreVertices, IsForestRun}
use Rattle.sp_jobs.proofs.SameForests.{same_far, same_forest_answer}

far_of : (P : ℕ) (g : Graph) (sources : List ℕ) (limit : Option ℕ) (v : ℕ) → IsRefusal P g sources limit (run.TooFar v) → IsAnswerToAll P g sources limit (FarFromAll v)
far_of P g sources None v is = is.1
far_of P g sources (Some limit) v is = absurd is

-- A vertex that a run tells to be too far is the answer.
pub far_answer : {T : Type 0} (P : ℕ) (g : Graph) (sources : List ℕ) (limit : Option ℕ) (v : ℕ) (result : Result T RunError) → result ≡ Err (run.TooFar v) → IfErr result (IsRefusal P g sources limit) → IsAnswerToAll P g sources limit (FarFromAll v)
far_answer P g sources limit v result told refused = far_of P g sources limit v (subst (λ r. IfErr r (IsRefusal P g sources limit)) told refused)

same_answer : (P : ℕ) (g h : Graph) (sources : List ℕ) (limit : Option ℕ) (answer : ForestAnswer) → AreSame g h → IsAnswerToAll P g sources limit answer → IsAnswerToAll P h sources limit answer
same_answer P g h sources limit (ForestOf f) same is = (is.0, same_forest_answer P g h same sources limit f is.1, is.2)
same_answer P g h sources None (FarFromAll v) same is = same_far g h same sources (max_dist P) (Some v) is
same_answer P g h sources (Some limit) (FarFromAll v) same is = absurd is

module _ {W : Type 0} (P : ℕ) (limit : Option ℕ) (g : Graph) (sources : List ℕ) (device : Writer W) (within : AreVertices g sources) where
  -- What was written for a graph with the same arcs was written for this one.
  pub forest_of_same : (graph : Graph) (answer : ForestAnswer) (old new : W) (result : Result Summary BatchError) → AreSame graph g → IsAnswerToAll P graph sources limit answer
      → IsForestAnswerWritten device answer old result new → IsForestRun P limit (wrote_by device old new) g sources result
  forest_of_same graph answer old new (Ok summary) same is wrote = (answer, same_answer P graph g sources limit answer same is, wrote.0, wrote.1)
  forest_of_same graph answer old new (Err Write) same is wrote = ((within, record { answer = answer; is = same_answer P graph g sources limit answer same is; begun = wrote.0 }), wrote.1)
  forest_of_same graph answer old new (Err Memory) same is wrote = absurd wrote
  forest_of_same graph answer old new (Err (Gr e)) same is wrote = absurd wrote
  forest_of_same graph answer old new (Err (Ss e)) same is wrote = absurd wrote
  forest_of_same graph answer old new (Err (Targets e)) same is wrote = absurd wrote
  forest_of_same graph answer old new (Err (Pairs e)) same is wrote = absurd wrote
  forest_of_same graph answer old new (Err (NoSuchVertex v role)) same is wrote = absurd wrote

  -- Memory was refused before anything was written.
  pub refused_early : (old : W) → IsForestRun P limit (wrote_by device old old) g sources (Err Memory)
  refused_early old = (within, refl)
