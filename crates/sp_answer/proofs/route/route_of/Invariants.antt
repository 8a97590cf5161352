use Rattle.std.proofs.Common.{◌≡◌, ℕ, ◌≤◌, length}
use Rattle.std.specs.Prelude.{reverse}
use Rattle.sp_word.specs.Word.{Pair}
use Rattle.sp_paths.specs.Paths.{IsVertex, IsLeast, word_at}
use Rattle.sp_paths.specs.Routes.{GoesOn}
use Rattle.sp_answer.proofs.route.route_of.Given as goal

abbrev pub invariant-steps : goal.invariant-steps
invariant-steps g l = record {
  here : IsVertex (length l.words) l.at.vertex;
  word : word_at l.words l.at.vertex ≡ Pair l.at.dist l.at.pred;
  least : IsLeast l.graph l.source l.at.vertex l.at.dist;
  on : GoesOn l.graph l.source l.at.vertex (reverse l.route.items) l.target;
  near : (d : ℕ) → IsLeast l.graph l.source l.target d → l.at.dist ≤ d;
}

abbrev pub decreases-steps : goal.decreases-steps
decreases-steps g l = l.at.dist
