use Rattle.sp_files.proofs.Texts.{file_told, file_accepted, one_file}
use Rattle.sp_files.proofs.laws.forest_texts_are_accepted.Goals as goal

pub returns-clause-accepted : goal.returns-clause-accepted
returns-clause-accepted c = λ P text layout. (λ none. file_told P text layout none, λ (k, f, held, is). rw is (file_accepted P k f held))

pub returns-clause-exact : goal.returns-clause-exact
returns-clause-exact c = λ P j k e f first second same. one_file P j k e f first second same
