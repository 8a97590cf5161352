use Rattle.std.proofs.Common.{◌≡◌, ℕ, length}
use Rattle.sp_word.specs.Word.{Pair}
use Rattle.sp_paths.specs.Paths.{IsVertex, word_at}
use Rattle.sp_paths.specs.Roots.{IsRoot}
use Rattle.sp_answer.proofs.rooting.climb.Given as goal

abbrev pub invariant-steps : goal.invariant-steps
invariant-steps g l = record {
  here : IsVertex (length l.words) l.at.vertex;
  word : word_at l.words l.at.vertex ≡ Pair l.at.dist l.at.pred;
  roots : (r : ℕ) → IsRoot (word_at l.words) l.at.vertex r → IsRoot (word_at l.words) l.vertex r;
}

abbrev pub decreases-steps : goal.decreases-steps
decreases-steps g l = l.at.dist
