use Rattle.sp_files.specs.Taking.{either_form}
use Rattle.sp_files.proofs.FileEnds.{file_read, file_found}
use Rattle.sp_files.proofs.FirstLines.{either_read}
use Rattle.sp_files.proofs.reading.read_tree_or_forest.Goals as goal

pub returns-clause-exact : goal.returns-clause-exact
returns-clause-exact g c = λ text known.
    let left = g.R.Read.left c.read_text.new.reader in
    let failed = g.R.Read.has_failed c.read_text.new.reader in
    either_read text left failed c.read_text.result (file_read g.row.P either_form c.requires text left failed c.read_text.result (c.read_text.ensures.exact text known))

pub returns-clause-found : goal.returns-clause-found
returns-clause-found g c = file_found g.row.P either_form c.requires c.read_text.result c.read_text.ensures.found
