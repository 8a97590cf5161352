use Rattle.std.proofs.Common.{sym, ◌∙◌}
use Rattle.sp_files.specs.ForestText.{source_count}
use Rattle.sp_files.proofs.Texts.{file_accepted, one_file, own_text, own_file}
use Rattle.sp_files.proofs.laws.forest_text_is_read.Goals as goal

pub returns-clause-accepted : goal.returns-clause-accepted
returns-clause-accepted c = λ P f h least. rw (own_text f) (file_accepted P (source_count f.rows) f (own_file P f h least))

pub returns-clause-own : goal.returns-clause-own
returns-clause-own c = λ f. own_text f

pub returns-clause-exact : goal.returns-clause-exact
returns-clause-exact c = λ P k e f h least held same. one_file P k (source_count f.rows) e f held (own_file P f h least) (sym same ∙ own_text f)
