use Rattle.std.proofs.Common.{refl, length}
use Rattle.sp_answer.proofs.RisingRows.{tree_is_table, words_are}
use Rattle.sp_answer.proofs.tree.Tree.of_words.Goals as goal

pub invariant_of-result : goal.invariant_of-result
invariant_of-result g c =
    tree_is_table g.row.P (length c.args.words.now) c.args.source c.args.words.now c.in_ok-rows_of.field-0.items c.requires.layout c.requires.least c.requires.most c.requires.source_least c.requires.source_most refl c.in_ok-rows_of.ensures.rows c.requires.preds c.in_ok-rows_of.ensures.fits

pub returns-clause-words : goal.returns-clause-words
returns-clause-words g c = λ v least most. rw c.in_ok-rows_of.ensures.rows (words_are c.args.source c.args.words.now v least most)
