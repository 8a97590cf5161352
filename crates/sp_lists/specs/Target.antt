-- The answer for one target.
use Rattle.std.specs.Prelude.{◌≡◌, ℕ, Result, Ok, Err}
use Rattle.sp_paths.specs.Paths.{Graph, IsPair, PairAnswer}
use Rattle.sp_paths.specs.Paths.{Found as FoundPair, TooFar as FarVertex, NoWalk as NoWay}
use Rattle.sp_lists.specs.declared.outcomes.Outcome.{Outcome}
use Rattle.sp_lists.specs.declared.outcomes.Outcome.TheVariants.{TooFar, Memory}
use Rattle.sp_lists.specs.declared.cells.Cell.{Cell}

-- This is the distance and the predecessor of an answer, or the greatest number and 0 if no walk leads to the target.
abbrev pub IsPairCell : PairAnswer → (d p : ℕ) → Type 0
IsPairCell (FoundPair e q) d p = (d ≡ e) × (p ≡ q)
IsPairCell (FarVertex v) d p = ⊥
IsPairCell NoWay d p = (d ≡ 18446744073709551615) × (p ≡ 0)

-- This is the cell of the answer for t from s.
pub record HasCell (max : ℕ) (g : Graph) (s t d p : ℕ) : Type 0 where
  pub answer : PairAnswer
  pub pair : IsPair g s t max answer
  pub cell : IsPairCell answer d p

-- This is why there is no cell: the target is too far or no walk leads to it, and this is the smallest vertex that is
-- too far; or there was no memory.
abbrev pub HasNoCell : (max : ℕ) → Graph → (s t : ℕ) → Outcome → Type 0
HasNoCell max g s t (TooFar v) = IsPair g s t max (FarVertex v)
HasNoCell max g s t Memory = Unit {0}
HasNoCell max g s t told = ⊥

-- This is the cell of the answer, or why there is none.
abbrev pub IsFoundIn : (max : ℕ) → Graph → (s t : ℕ) → Result Cell Outcome → Type 0
IsFoundIn max g s t (Ok cell) = HasCell max g s t cell.dist cell.pred
IsFoundIn max g s t (Err told) = HasNoCell max g s t told
