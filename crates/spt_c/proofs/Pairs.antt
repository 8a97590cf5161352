-- What is told of one target.
use Rattle.std.proofs.Common.{ℕ, inr, Result, Ok, Err}
use Rattle.sp_paths.specs.Paths.{Graph}
use Rattle.sp_paths.specs.Paths.{TooFar as FarVertex}
use Rattle.sp_paths.specs.Bags.{AreSame}
use Rattle.sp_paths.proofs.SameArcs.{same_arcs_same_answers}
use Rattle.sp_lists.specs.declared.outcomes.Outcome.{Outcome}
use Rattle.sp_lists.specs.declared.outcomes.Outcome.TheVariants.{TooFar}
use Rattle.sp_lists.specs.declared.cells.Cell.{Cell}
use Rattle.sp_lists.specs.Limits.{reach}
use Rattle.sp_lists.specs.Target.{HasNoCell, IsFoundIn}
use Rattle.spt_c.specs.Asked.{AskedTrees, IsGood}
use Rattle.spt_c.specs.Found.{IsFoundBy, unlimited}

same_none : (max : ℕ) (g h : Graph) (s t : ℕ) (told : Outcome) → AreSame g h → HasNoCell max g s t told → HasNoCell max h s t told
same_none max g h s t (TooFar v) same is = (same_arcs_same_answers g h same).pair s t max (FarVertex v) is
same_none max g h s t told same is = is

-- What is found by the rows of a graph is found by the arcs that were passed.
pub same_found : (max : ℕ) (g h : Graph) (s t : ℕ) (found : Result Cell Outcome) → AreSame g h → IsFoundIn max g s t found → IsFoundIn max h s t found
same_found max g h s t (Ok cell) same is = record { answer = is.answer; pair = (same_arcs_same_answers g h same).pair s t max is.answer is.pair; cell = is.cell }
same_found max g h s t (Err told) same is = same_none max g h s t told same is

-- Where nothing is wrong with a call, it is told what is found.
pub good_found : (q : AskedTrees) (g : Graph) (s t : ℕ) (found : Result Cell Outcome) → IsGood q unlimited → IsFoundIn (reach q.n) g s t found → IsFoundBy q g s t found
good_found q g s t (Ok cell) good is = (good, is)
good_found q g s t (Err told) good is = inr (good, is)
