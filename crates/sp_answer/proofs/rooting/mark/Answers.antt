use Rattle.std.proofs.Common.{◌≡◌, ◌-◌, length, sym, subst, ◌∙◌}
use Rattle.std.proofs.lemmas.List.{length-set}
use Rattle.sp_word.specs.Word.{Pair}
use Rattle.sp_paths.specs.Paths.{IsVertex, word_at}
use Rattle.sp_paths.specs.Roots.{IsRoot}
use Rattle.sp_answer.proofs.RootSteps.{root_back, next_there, set_known, set_stays}
use Rattle.sp_answer.proofs.rooting.mark.Goals as goal

pub steps-preserved : goal.steps-preserved
steps-preserved g c =
    let words = word_at c.args.words.now in
    let n = length c.args.words.now in
    let root = c.args.root in
    let at = c.steps.at in
    let inv = c.steps.invariant in
    let low = c.steps-test.true in
    let next = c.place_of-at-in-steps in
    let is = next.ensures.vertex in
    let there = next_there n words c.requires.falls at.vertex at.dist at.pred inv.here inv.word low in
    record {
      here = subst (IsVertex n) (sym is) there.0;
      word = subst (λ x. words x ≡ Pair next.result.dist next.result.pred) (sym is) next.ensures.word;
      root = subst (λ x. IsRoot words x root) (sym is) (root_back words at.vertex at.dist at.pred root inv.word low inv.root);
      size = length-set c.steps.roots (at.vertex - 1) root ∙ inv.size;
      known = set_known c.args.words.now c.steps.roots at.vertex root inv.size inv.here inv.known inv.root;
      stays = set_stays n c.args.roots.now c.steps.roots at.vertex root inv.size inv.here c.requires.some inv.stays;
    }
