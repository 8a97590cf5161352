-- From the two texts to the answers of pairs.
use Rattle.std.proofs.Common.{ℕ, List, Result}
use Rattle.std.specs.Prelude.{All, IfErr}
use Rattle.sp_device.specs.Failing.{Failing}
use Rattle.sp_text.specs.declared.faults.DimacsError.{DimacsError}
use Rattle.sp_paths.specs.Paths.{Graph}
use Rattle.sp_network.specs.declared.directions.Direction.{Direction}
use Rattle.sp_jobs.specs.declared.answers.Summary.{Summary}
use Rattle.sp_jobs.specs.declared.answers.BatchError.{BatchError}
use Rattle.sp_jobs.specs.Network.{GraphFault}
use Rattle.sp_jobs.specs.Answered.{Wrote, IsUnwritten}
use Rattle.sp_jobs.specs.PairAnswers.{PairKind, AreLinesWritten, HasBegunPairs}
use Rattle.sp_jobs.proofs.Outcomes.{IsLate, by_end, late}
use Rattle.sp_pairs.specs.Pairs.{IsPairUpTo, IsFirstPairAbove, ArePairsDone, ArePairsOf, PairsTold, PairsOfSome, MayFail}

-- What was done for a graph and pairs is no fault of a text.
pub pairs_late : (kind : PairKind) (P : ℕ) (wrote : Wrote) (graph : Graph) (pairs : List (ℕ × ℕ)) (result : Result Summary BatchError) → ArePairsDone kind P wrote graph pairs result → IsLate result
pairs_late kind P wrote graph pairs result is =
    late (AreLinesWritten kind P graph pairs wrote) (IsFirstPairAbove graph.n pairs) (All (IsPairUpTo graph.n) pairs × IsUnwritten wrote) (All (IsPairUpTo graph.n) pairs × HasBegunPairs kind P graph pairs wrote.before wrote.after) wrote result is

module _ (kind : PairKind) (P : ℕ) (way : Direction) (gr_text list_text : List ℕ) (wrote : Wrote) (result : Result Summary BatchError) (are : ArePairsOf kind P way gr_text list_text wrote result) where
  is_late : IsLate result
  is_late = pairs_late kind P wrote are.graph are.list.pairs.items result are.done

  -- It is the answer to texts that spell them.
  pub pairs_told : (NoGraph : GraphFault → Type 0) (NoList : DimacsError → Type 0) → PairsTold kind P way gr_text list_text NoGraph NoList wrote result
  pairs_told NoGraph NoList =
      by_end (λ r. ArePairsOf kind P way gr_text list_text wrote r → PairsTold kind P way gr_text list_text NoGraph NoList wrote r) result is_late (λ summary done. done) (λ v role done. done) (λ done. done) (λ done. done) are

  pub pairs_of_some : PairsOfSome kind P way wrote result
  pairs_of_some =
      by_end (λ r. ArePairsOf kind P way gr_text list_text wrote r → PairsOfSome kind P way wrote r) result is_late
      (λ summary done. (gr_text, list_text, done)) (λ v role done. (gr_text, list_text, done)) (λ done. (gr_text, list_text, done)) (λ done. (gr_text, list_text, done)) are

-- It tells of no device.
pub may_fail : (gr pairs : Failing) (result : Result Summary BatchError) → IsLate result → IfErr result (MayFail gr pairs)
may_fail gr pairs result is = by_end (λ r. IfErr r (MayFail gr pairs)) result is (λ summary. tt) (λ v role. tt) tt tt
