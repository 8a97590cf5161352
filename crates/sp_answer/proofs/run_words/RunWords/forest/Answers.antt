use Rattle.std.proofs.Common.{◌≤◌, ℕ, Option, sym, subst, ◌∙◌, arith}
use Rattle.sp_word.specs.Word.{max_pred}
use Rattle.sp_paths.specs.Paths.{word_at}
use Rattle.sp_paths.specs.Roots.{FallsBack}
use Rattle.sp_answer.specs.Run.{AreForestWords}
use Rattle.sp_answer.proofs.ForestAnswers.{law_of, answer_is}
use Rattle.sp_answer.proofs.ForestWords.{forest_size, forest_up_to, too_far}
use Rattle.sp_answer.proofs.run_words.RunWords.forest.Goals as goal

pub of_words-requires : goal.of_words-requires
of_words-requires g c =
    let graph = c.args.graph.now in
    let sources = c.args.sources.now in
    let limit = c.args.limit in
    let words = c.args.self.words.items in
    let slice = c.as_slice.result.now in
    let W : Option ℕ → Type 0 = λ o. AreForestWords g.row.P graph sources limit words o in
    let told = subst W c.in-None.is c.requires.words in
    let made = c.as_slice.ensures.value ∙ c.words_within-words.ensures in
    let size = forest_size g.row.P graph sources limit words slice _ made told in
    let law = law_of g.row.P graph c.n.ensures.graph sources told.vertices limit (word_at slice) (forest_up_to g.row.P graph sources limit words slice made told) in (
      omega arith,
      (
        omega arith,
        (
          c.requires.layout,
          (
            subst (λ (n : ℕ). n ≤ max_pred g.row.P) (sym size) c.requires.n,
            subst (λ (n : ℕ). FallsBack n (word_at slice)) (sym size) law.falls,
          ),
        ),
      ),
    )

pub returns-in-Ok-clause-forest : goal.returns-in-Ok-clause-forest
returns-in-Ok-clause-forest g c =
    let graph = c.args.graph.now in
    let sources = c.args.sources.now in
    let limit = c.args.limit in
    let words = c.args.self.words.items in
    let slice = c.as_slice.result.now in
    let W : Option ℕ → Type 0 = λ o. AreForestWords g.row.P graph sources limit words o in
    let told = subst W c.in-None.is c.requires.words in
    let made = c.as_slice.ensures.value ∙ c.words_within-words.ensures in
    let size = forest_size g.row.P graph sources limit words slice _ made told in
    answer_is g.row.P graph c.n.ensures.graph sources told.vertices limit slice size (forest_up_to g.row.P graph sources limit words slice made told) c.in-Ok.forest c.in-Ok.ensures.n c.in-Ok.ensures.words c.in-Ok.ensures.roots

pub returns-in-Some-clause-refused : goal.returns-in-Some-clause-refused
returns-in-Some-clause-refused g c =
    let graph = c.args.graph.now in
    let sources = c.args.sources.now in
    let limit = c.args.limit in
    let words = c.args.self.words.items in
    let W : Option ℕ → Type 0 = λ o. AreForestWords g.row.P graph sources limit words o in
    too_far g.row.P graph sources limit words c.in-Some.beyond (subst W c.in-Some.is c.requires.words)
