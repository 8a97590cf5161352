use Rattle.sp_files.proofs.WholeTexts.{tree_written, counted}
use Rattle.sp_files.proofs.trees.writing.write_words_in_pages.Goals as goal

pub returns-clause-written : goal.returns-clause-written
returns-clause-written g c = tree_written c.args.tree.now c.n.ensures.n c.source.ensures.source c.words_of.ensures c.reached.ensures.reached c.begin_tree-printer.ensures c.write_in_pages.ensures

pub returns-clause-passed : goal.returns-clause-passed
returns-clause-passed g c = counted c.begin_tree-printer.ensures c.write_in_pages.ensures
