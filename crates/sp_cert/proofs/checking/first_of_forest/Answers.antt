use Rattle.sp_cert.proofs.Verdict.{forest_first}
use Rattle.sp_cert.proofs.checking.first_of_forest.Goals as goal

pub returns-clause-first : goal.returns-clause-first
returns-clause-first g c =
    let first = rw c.deref.ensures.value at c.first_of_words-of_words.ensures in
    forest_first g.row.P c.args.forest.now c.args.limit c.args.graph.now c.in_ok-words.words.items c.first_of_words-of_words.result c.first_of_roots-of_roots.result c.earlier.result c.is_counted.ensures.graph (c.is_counted.ensures.counted.0 c.if-not-is_counted.false).0 (c.in_ok-words.ensures {u = tt}).words first c.first_of_roots-of_roots.ensures c.earlier.ensures c.args.count (c.is_counted.ensures.counted.0 c.if-not-is_counted.false)
