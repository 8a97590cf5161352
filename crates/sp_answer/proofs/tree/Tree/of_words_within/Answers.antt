use Rattle.sp_answer.proofs.RowsWithin.{part_is_table, part_words}
use Rattle.sp_answer.proofs.tree.Tree.of_words_within.Goals as goal

pub invariant_of-result : goal.invariant_of-result
invariant_of-result g c =
    part_is_table g.row.P c.args.source c.args.limit c.args.words.now c.in_ok-rows_within.field-0.items c.requires.layout c.requires.least c.requires.most c.requires.source_least c.requires.source_most c.in_ok-rows_within.ensures.rows c.requires.preds c.in_ok-rows_within.ensures.fits

pub returns-clause-words : goal.returns-clause-words
returns-clause-words g c = part_words c.args.source c.args.limit c.args.words.now c.in_ok-rows_within.field-0.items c.in_ok-rows_within.ensures.rows
