use Rattle.std.proofs.Common.{ℕ, ◌<◌}
use Rattle.std.specs.Prelude.{slice_index_or}
use Rattle.sp_paths.specs.Paths.{word_at}
use Rattle.sp_answer.specs.Run.{IsUpTo}
use Rattle.sp_answer.proofs.run_words.farthest.Given as goal

abbrev pub invariant-loop-target : goal.invariant-loop-target
invariant-loop-target g l = (k d : ℕ) → k < l.target-index → IsUpTo l.far (word_at l.words (slice_index_or l.targets k d))
