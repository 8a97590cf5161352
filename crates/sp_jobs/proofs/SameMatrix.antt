-- The lines of a matrix for a graph whose arcs were put in another order.
use Rattle.std.proofs.Common.{ℕ, ◌≤◌, List, length, Option, Result, Ok, Err, ap, ◌∙◌, subst}
use Rattle.std.specs.Prelude.{All}
use Rattle.std.specs.Io.KnownBytes.{Appends}
use Rattle.sp_device.specs.declared.devices.Write.{Ghosts as Writer}
use Rattle.sp_paths.specs.Paths.{Graph, IsGraph, IsVertex}
use Rattle.sp_paths.specs.Bags.{AreSame}
use Rattle.sp_jobs.specs.declared.answers.Summary.{Summary}
use Rattle.sp_jobs.specs.declared.answers.BatchError.{BatchError}
use Rattle.sp_jobs.specs.declared.answers.BatchError.TheVariants.{Gr, Ss, Targets, Pairs, NoSuchVertex, Memory, Write}
use Rattle.sp_jobs.specs.Places.{AreNumbered}
use Rattle.sp_jobs.specs.Answered.{Wrote, wrote_by}
use Rattle.sp_jobs.specs.Listing.{AskedList, AreAsked}
use Rattle.sp_jobs.proofs.Files.{itself}
use Rattle.sp_jobs.proofs.Outcomes.{by_end, late}
use Rattle.sp_jobs.specs.Told.{AreAllAnswered, HasBegunFirst}
use Rattle.sp_jobs.specs.PairAnswers.{word_kind, HasBegunPairs}
use Rattle.sp_jobs.proofs.ToldInOrder.{none_begun}
use Rattle.sp_jobs.specs.Matrix.{matrix_of, AreUpTo, IsMatrix, IsMatrixTo, IsMatrixToSome}
use Rattle.sp_jobs.specs.Row.{IsRowTold}
use Rattle.sp_jobs.proofs.Rows.{rows_told, same_answers, matrix_begun}

-- A graph, and sources and targets that are its vertices.
pub record AreLists (g : Graph) (sources targets : List ℕ) : Type 0 where
  pub arcs : IsGraph g
  pub numbered_sources : AreNumbered sources
  pub numbered_targets : AreNumbered targets
  pub within : AreUpTo g.n sources targets

vertices : (n : ℕ) (list : List ℕ) → AreNumbered list → All (λ v. v ≤ n) list → All (IsVertex n) list
vertices n list numbered within = λ i d less. (numbered.named i d less, within i d less)

module _ {W : Type 0} (P : ℕ) (g : Graph) (sources targets : List ℕ) (device : Writer W) (ok : AreLists g sources targets) where
  -- What was begun with the first rows of a graph with the same arcs is a beginning with all.
  told_begun : (graph : Graph) (old new : Option (List ℕ)) → AreSame graph g → HasBegunFirst (λ s told. IsRowTold P graph targets s told) sources old new → HasBegunPairs word_kind P g (matrix_of sources targets) old new
  told_begun graph old new same begun =
      matrix_begun P g ok.arcs graph sources targets old new same (vertices g.n sources ok.numbered_sources ok.within.each_source) (vertices g.n targets ok.numbered_targets ok.within.each_target) begun

  -- What was answered for a graph with the same arcs was answered for this one.
  pub matrix_of_same : (graph : Graph) (old new : W) (result : Result Summary BatchError) → AreSame graph g
      → AreAllAnswered (λ s told. IsRowTold P graph targets s told) sources device old result new → IsMatrix P targets (wrote_by device old new) g sources result
  matrix_of_same graph old new (Ok summary) same h =
      let t = rows_told P graph targets sources h.all h.are in
      let counted = h.text.counted in (
        t.answers,
        same_answers P graph g (matrix_of sources targets) t.answers same t.are,
        subst (λ (l : List ℕ). Appends (device.written old) (device.written new) l) t.text h.text.wrote,
        record { sources = counted.sources ∙ t.count; too_far = counted.too_far ∙ t.far; bytes = counted.bytes ∙ ap length t.text },
      )
  matrix_of_same graph old new (Err Memory) same begun = (ok.within, told_begun graph (device.written old) (device.written new) same begun)
  matrix_of_same graph old new (Err Write) same (begun, failed) = ((ok.within, told_begun graph (device.written old) (device.written new) same begun), failed)
  matrix_of_same graph old new (Err (Gr e)) same is = absurd is
  matrix_of_same graph old new (Err (Ss e)) same is = absurd is
  matrix_of_same graph old new (Err (Targets e)) same is = absurd is
  matrix_of_same graph old new (Err (Pairs e)) same is = absurd is
  matrix_of_same graph old new (Err (NoSuchVertex v role)) same is = absurd is

  -- Memory was refused before anything was written.
  pub refused_early : (old : W) → IsMatrix P targets (wrote_by device old old) g sources (Err Memory)
  refused_early old = matrix_of_same g old old (Err Memory) (itself g) (none_begun (λ s told. IsRowTold P g targets s told) sources (device.written old))

module _ (P : ℕ) (targets : List ℕ) (wrote : Wrote) (graph : Graph) (sources : List ℕ) where
  -- It is what is done for a list that asks for the targets.
  pub to_asked : (ends : AskedList) (result : Result Summary BatchError) → IsMatrix P targets wrote graph sources result → AreAsked P ends targets → IsMatrixTo P ends wrote graph sources result
  to_asked ends result is are =
      by_end (λ r. IsMatrix P targets wrote graph sources r → IsMatrixTo P ends wrote graph sources r) result (late _ _ _ _ _ result is)
      (λ summary done. (targets, are, done)) (λ v role done. (targets, are, done)) (λ done. (targets, are, done)) (λ done. (targets, are, done)) is

  pub to_some : (ends : List ℕ → AskedList) (text : List ℕ) (result : Result Summary BatchError) → IsMatrix P targets wrote graph sources result → AreAsked P (ends text) targets → IsMatrixToSome P ends wrote graph sources result
  to_some ends text result is are =
      by_end (λ r. IsMatrix P targets wrote graph sources r → IsMatrixToSome P ends wrote graph sources r) result (late _ _ _ _ _ result is)
      (λ summary done. (text, targets, are, done)) (λ v role done. (text, targets, are, done)) (λ done. (text, targets, are, done)) (λ done. (text, targets, are, done)) is
