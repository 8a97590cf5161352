use Rattle.sp_files.specs.Taking.{forest_form}
use Rattle.sp_files.proofs.FileEnds.{file_found}
use Rattle.sp_files.proofs.reading.read_forest.Goals as goal

pub returns-clause-found : goal.returns-clause-found
returns-clause-found g c = file_found g.row.P forest_form c.requires c.read_text.result c.read_text.ensures.found
