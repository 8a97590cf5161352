use Rattle.std.proofs.Common.{length, ap}
use Rattle.std.specs.List.{flat_map}
use Rattle.sp_files.specs.ForestText.{row_text}
use Rattle.sp_files.proofs.WholeTexts.{forest_written, counted}
use Rattle.sp_files.proofs.forests.writing.write_forest.Goals as goal

pub returns-clause-written : goal.returns-clause-written
returns-clause-written g c = forest_written c.args.forest.now (ap (flat_map row_text) c.rows.ensures.rows) (ap length c.rows-2.ensures.rows) c.begin_forest-printer.ensures c.write_rows.ensures

pub returns-clause-passed : goal.returns-clause-passed
returns-clause-passed g c = counted c.begin_forest-printer.ensures c.write_rows.ensures
