use Rattle.sp_files.proofs.Texts.{tree_told, tree_accepted}
use Rattle.sp_files.proofs.laws.tree_texts_are_accepted.Goals as goal

pub returns : goal.returns
returns c = λ P text layout. (λ none. tree_told P text layout none, λ (t, table, is). rw is (tree_accepted P t table))
