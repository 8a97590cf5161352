use Rattle.std.proofs.Common.{sym, ◌∙◌}
use Rattle.sp_cert.proofs.Verdict.{tree_first}
use Rattle.sp_cert.proofs.checking.first_of_tree.Goals as goal

pub returns-clause-first : goal.returns-clause-first
returns-clause-first g c =
    let first = rw c.deref.ensures.value at c.first_of_words.ensures in
    tree_first g.row.P c.args.tree.now c.args.limit c.args.graph.now c.in_ok-words.words.items c.source.result c.first_of_words.result c.n-2.ensures.graph (sym c.n.ensures.n ∙ (c.if-n.false ∙ c.n-2.ensures.n)) c.source.ensures.source (c.in_ok-words.ensures {u = tt}).words first
