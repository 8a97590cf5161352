use Rattle.std.proofs.Common.{ℕ, [], ◌∷◌, Option, sym, subst, arith}
use Rattle.sp_word.specs.Word.{max_dist}
use Rattle.sp_answer.specs.Run.{AreWholeWords}
use Rattle.sp_judge.specs.Several.{IsTableOfAny}
use Rattle.sp_judge.proofs.TableSteps.{one_vertex, first_table, whole_tree, whole_far}
use Rattle.sp_judge.proofs.plain.plain_tree.Goals as goal

pub finish-requires : goal.finish-requires
finish-requires g c =
    let graph = c.args.graph.now in
    let s = c.args.source in
    let first = subst (IsTableOfAny graph (s ∷ []) (max_dist g.row.P)) (sym (rw c.n.ensures.n at c.in_ok-words.ensures)) (first_table graph s (max_dist g.row.P) c.requires.source) in
    (omega arith, record { layout = c.requires.layout; room = c.requires.room; vertices = one_vertex graph.n s c.requires.source; asked = tt; table = first })

pub returns-in-Some-clause-answer : goal.returns-in-Some-clause-answer
returns-in-Some-clause-answer g c =
    let W : Option ℕ → Type 0 = λ o. AreWholeWords g.row.P c.args.graph.now c.args.source c.finish.new.words.items o in
    whole_far g.row.P c.args.graph.now c.args.source c.finish.new.words.items c.in-Some.vertex (subst W c.in-Some.is c.finish.ensures)

pub returns-in-None-clause-answer : goal.returns-in-None-clause-answer
returns-in-None-clause-answer g c =
    let W : Option ℕ → Type 0 = λ o. AreWholeWords g.row.P c.args.graph.now c.args.source c.finish.new.words.items o in
    let are = subst W c.in-None.is c.finish.ensures in
    let told = whole_tree g.row.P c.args.graph.now c.args.source c.finish.new.words.items are in
    (are.size, told.0, told.1)
