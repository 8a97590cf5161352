use Rattle.std.proofs.Common.{◌≡◌, ◌∙◌, ℕ, List, length, sym, ap, subst, arith}
use Rattle.sp_word.specs.Word.{Word}
use Rattle.sp_paths.specs.Paths.{word_at}
use Rattle.sp_paths.specs.Roots.{FallsBack}
use Rattle.sp_answer.specs.Nearest.{IsForestUpTo}
use Rattle.sp_answer.specs.Rooted.{AreRoots}
use Rattle.sp_answer.proofs.ForestAnswers.{law_of}
use Rattle.sp_lists.proofs.Forests.{rooted}
use Rattle.sp_lists.proofs.forest.run_forest.Goals as goal

pub roots_of-requires : goal.roots_of-requires
roots_of-requires g c =
    let graph = c.args.graph.now in
    let slice = c.as_slice.result.now in
    let value = c.as_slice.ensures.value in
    let size : length slice ≡ graph.n = ap (λ (ws : List Word). length ws) value ∙ c.in_ok-words.ensures.size in
    let W : List Word → Type 0 = λ ws. IsForestUpTo g.row.P graph c.args.near.sources.now c.args.near.limit (word_at ws) in
    let law = law_of g.row.P graph c.n.ensures.graph c.args.near.sources.now c.requires.vertices c.args.near.limit (word_at slice) (subst W (sym value) c.in_ok-words.ensures.forest) in
    (omega arith, (omega (arith, size), subst (λ (n : ℕ). FallsBack n (word_at slice)) (sym size) law.falls))

pub returns-in-Ok-clause-forest : goal.returns-in-Ok-clause-forest
returns-in-Ok-clause-forest g c =
    let graph = c.args.graph.now in
    let words = c.in_ok-words.words.items in
    let R : List Word → Type 0 = λ ws. AreRoots ws c.in-Ok.roots.items in
    rooted g.row.P graph c.n.ensures.graph c.args.near.sources.now c.requires.vertices c.args.near.limit words c.in-Ok.roots.items c.in_ok-words.ensures.size c.in_ok-words.ensures.forest (subst R c.as_slice.ensures.value c.in-Ok.ensures)
