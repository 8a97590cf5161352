use Rattle.sp_paths.proofs.TheoremProofs.{finished_ends_in_tree, finished_is_tree, finished_is_far, finished_is_pair}
use Rattle.sp_paths.proofs.laws.finished_table.Goals as goal

pub returns-clause-ends_in_tree : goal.returns-clause-ends_in_tree
returns-clause-ends_in_tree c = finished_ends_in_tree

pub returns-clause-is_tree : goal.returns-clause-is_tree
returns-clause-is_tree c = finished_is_tree

pub returns-clause-is_far : goal.returns-clause-is_far
returns-clause-is_far c = finished_is_far

pub returns-clause-is_pair : goal.returns-clause-is_pair
returns-clause-is_pair c = finished_is_pair
