use Rattle.std.proofs.Common.{ℕ, ◌≤◌}
use Rattle.sp_word.specs.Word.{max_dist}
use Rattle.sp_paths.specs.Paths.{word_at}
use Rattle.sp_judge.specs.Shown.{IsRowClosedUpTo}
use Rattle.sp_judge.proofs.scan.is_relaxed_up_to.Given as goal

abbrev pub invariant-loop-place : goal.invariant-loop-place
invariant-loop-place g l = (u : ℕ) → 1 ≤ u → u ≤ l.place → IsRowClosedUpTo l.graph (max_dist g.row.P) l.far (word_at l.words) u
