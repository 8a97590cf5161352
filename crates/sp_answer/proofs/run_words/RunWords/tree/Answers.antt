use Rattle.std.proofs.Common.{ℕ, Option, subst}
use Rattle.sp_answer.specs.Run.{AreWholeWords}
use Rattle.sp_answer.proofs.OneSource.{whole_tree, far_of}
use Rattle.sp_answer.proofs.run_words.RunWords.tree.Goals as goal

pub returns-in-Some-clause-refused : goal.returns-in-Some-clause-refused
returns-in-Some-clause-refused g c =
    let graph = c.args.graph.now in
    let s = c.args.source in
    let words = c.args.self.words.items in
    let W : Option ℕ → Type 0 = λ o. AreWholeWords g.row.P graph s words o in
    far_of g.row.P graph s words c.in-Some.vertex (subst W c.in-Some.is c.requires.words)

pub returns-in-None-clause-tree : goal.returns-in-None-clause-tree
returns-in-None-clause-tree g c =
    let graph = c.args.graph.now in
    let s = c.args.source in
    let words = c.args.self.words.items in
    let W : Option ℕ → Type 0 = λ o. AreWholeWords g.row.P graph s words o in
    whole_tree g.row.P graph s words c.of_words.result c.of_words.ensures.tree c.of_words.ensures.words (subst W c.in-None.is c.requires.words)
