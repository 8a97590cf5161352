use Rattle.std.proofs.Common.{◌≡◌, ◌∙◌, ℕ, List, [], ◌∷◌, length, refl, sym, ap, subst, arith}
use Rattle.std.specs.Prelude.{None, Some}
use Rattle.sp_word.specs.Word.{Word, max_dist}
use Rattle.sp_paths.specs.Paths.{IsFar, word_at}
use Rattle.sp_answer.specs.declared.answer.RunError.{RunError}
use Rattle.sp_answer.specs.Nearest.{IsForestUpTo, IsRefusal}
use Rattle.sp_paths.proofs.OneForest.{forest_of_one_is_tree}
use Rattle.sp_lists.specs.Blocks.{slices, AreCells, KeepsOthers}
use Rattle.sp_lists.proofs.solving.tree_by.Goals as goal

pub put_words-requires : goal.put_words-requires
put_words-requires g c =
    let size : length c.as_slice.result.now ≡ c.args.at.graph.now.n = ap (λ (ws : List Word). length ws) c.as_slice.ensures.value ∙ c.in-Ok.ensures.size in
    (omega arith, (omega (arith, size), omega (arith, size)))

pub returns-in-Ok : goal.returns-in-Ok
returns-in-Ok g c =
    let graph = c.args.at.graph.now in
    let s = c.args.block.source in
    let low = c.args.block.low in
    let words = c.as_slice.result.now in
    let new = slices c.put_words.new.dist c.put_words.new.pred in
    let size : length words ≡ graph.n = ap (λ (ws : List Word). length ws) c.as_slice.ensures.value ∙ c.in-Ok.ensures.size in
    let W : List Word → Type 0 = λ ws. IsForestUpTo g.row.P graph (s ∷ []) None (word_at ws) in
    let forest = subst W (sym c.as_slice.ensures.value) c.in-Ok.ensures.forest in
    let law = forest_of_one_is_tree graph s in
    let F : ℕ → Type 0 = λ max. IsFar graph s max None in (
      record {
        words = word_at words;
        tree = (law.forest (word_at words)).0 forest.0;
        far = subst F c.fitting.ensures.reach ((law.far (max_dist g.row.P) None).0 forest.1);
        cells = subst (λ (n : ℕ). AreCells low n (word_at words) new) size c.put_words.ensures.cells;
      },
      subst (λ (n : ℕ). KeepsOthers low n (slices c.args.dist.now c.args.pred.now) new) size c.put_words.ensures.others,
    )

pub returns-in-Err-TooFar : goal.returns-in-Err-TooFar
returns-in-Err-TooFar g c =
    let graph = c.args.at.graph.now in
    let s = c.args.block.source in
    let v = c.in-Err-TooFar.vertex in
    let R : RunError → Type 0 = λ e. IsRefusal g.row.P graph (s ∷ []) None e in
    let refused = subst R c.in-Err-TooFar.field-0-is c.in-Err-TooFar.ensures.refused in
    let F : ℕ → Type 0 = λ max. IsFar graph s max (Some v) in
    (subst F c.fitting.ensures.reach (((forest_of_one_is_tree graph s).far (max_dist g.row.P) (Some v)).0 refused.1), refl {a = slices c.args.dist.now c.args.pred.now})
