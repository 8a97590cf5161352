use Rattle.std.proofs.Common.{length, ap}
use Rattle.std.specs.List.{flat_map}
use Rattle.sp_files.specs.TreeText.{row_text}
use Rattle.sp_files.proofs.WholeTexts.{tree_written, counted}
use Rattle.sp_files.proofs.trees.writing.write_tree.Goals as goal

pub returns-clause-written : goal.returns-clause-written
returns-clause-written g c = tree_written c.args.tree.now c.n.ensures.n c.source.ensures.source (ap (flat_map row_text) c.rows.ensures.rows) (ap length c.rows-2.ensures.rows) c.begin_tree-printer.ensures c.write_rows.ensures

pub returns-clause-passed : goal.returns-clause-passed
returns-clause-passed g c = counted c.begin_tree-printer.ensures c.write_rows.ensures
