use Rattle.sp_paths.proofs.Existence.{trees_exist, pairs_exist}
use Rattle.sp_paths.proofs.laws.answers_exist.Goals as goal

pub returns-clause-tree : goal.returns-clause-tree
returns-clause-tree c = trees_exist

pub returns-clause-pair : goal.returns-clause-pair
returns-clause-pair c = pairs_exist
