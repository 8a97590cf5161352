use Rattle.std.proofs.Common.{◌≡◌, length, sym, subst}
use Rattle.sp_word.specs.Word.{Pair}
use Rattle.sp_paths.specs.Paths.{IsVertex, word_at}
use Rattle.sp_paths.specs.Roots.{IsRoot}
use Rattle.sp_answer.proofs.RootSteps.{root_on, next_there}
use Rattle.sp_answer.proofs.rooting.climb.Goals as goal

pub steps-preserved : goal.steps-preserved
steps-preserved g c =
    let words = word_at c.args.words.now in
    let at = c.steps.at in
    let inv = c.steps.invariant in
    let low = c.steps-test.true in
    let next = c.place_of-at-in-steps in
    let is = next.ensures.vertex in
    let there = next_there (length c.args.words.now) words c.requires.falls at.vertex at.dist at.pred inv.here inv.word low in
    record {
      here = subst (IsVertex (length c.args.words.now)) (sym is) there.0;
      word = subst (λ x. words x ≡ Pair next.result.dist next.result.pred) (sym is) next.ensures.word;
      roots = λ r back. inv.roots r (root_on words at.vertex at.dist at.pred r inv.word low (subst (λ x. IsRoot words x r) is back));
    }
