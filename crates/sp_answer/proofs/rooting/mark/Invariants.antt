use Rattle.std.proofs.Common.{◌≡◌, length}
use Rattle.sp_word.specs.Word.{Pair}
use Rattle.sp_paths.specs.Paths.{IsVertex, word_at}
use Rattle.sp_paths.specs.Roots.{IsRoot}
use Rattle.sp_answer.specs.Rooted.{AreKnown, StayKnown}
use Rattle.sp_answer.proofs.rooting.mark.Given as goal

abbrev pub invariant-steps : goal.invariant-steps
invariant-steps g l = record {
  here : IsVertex (length l.words) l.at.vertex;
  word : word_at l.words l.at.vertex ≡ Pair l.at.dist l.at.pred;
  root : IsRoot (word_at l.words) l.at.vertex l.root;
  size : length l.roots ≡ length l.words;
  known : AreKnown l.words l.roots;
  stays : StayKnown (length l.words) l.initial.roots l.roots;
}

abbrev pub decreases-steps : goal.decreases-steps
decreases-steps g l = l.at.dist
