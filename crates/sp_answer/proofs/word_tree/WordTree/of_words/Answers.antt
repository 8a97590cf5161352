use Rattle.std.proofs.Common.{refl, length}
use Rattle.sp_answer.specs.Table.{rows_from}
use Rattle.sp_answer.proofs.RisingRows.{tree_is_table, words_are}
use Rattle.sp_answer.proofs.word_tree.WordTree.of_words.Goals as goal

pub invariant_of-result : goal.invariant_of-result
invariant_of-result g c =
    let words = c.args.words.items in
    let counted = rw c.deref.ensures.value at c.count_reached-reached.ensures in
    record {
      table = tree_is_table g.row.P (length words) c.args.source words (rows_from 1 words) c.requires.layout c.requires.least c.requires.most c.requires.source_least c.requires.source_most refl refl c.requires.preds counted.fits;
      count = counted.count;
    }

pub returns-clause-words : goal.returns-clause-words
returns-clause-words g c = words_are c.args.source c.args.words.items
