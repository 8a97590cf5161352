use Rattle.sp_paths.proofs.Sweep.{swept_ends_in_tree, swept_is_tree, swept_is_far, swept_is_pair}
use Rattle.sp_paths.proofs.laws.swept_copy.Goals as goal

pub returns-clause-ends_in_tree : goal.returns-clause-ends_in_tree
returns-clause-ends_in_tree c = swept_ends_in_tree

pub returns-clause-is_tree : goal.returns-clause-is_tree
returns-clause-is_tree c = swept_is_tree

pub returns-clause-is_far : goal.returns-clause-is_far
returns-clause-is_far c = swept_is_far

pub returns-clause-is_pair : goal.returns-clause-is_pair
returns-clause-is_pair c = swept_is_pair
