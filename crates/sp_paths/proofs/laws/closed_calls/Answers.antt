use Rattle.sp_paths.proofs.CallSteps.{closed_ends_in_tree, one_call_more, opening_opens}
use Rattle.sp_paths.proofs.laws.closed_calls.Goals as goal

pub returns-clause-ends_in_tree : goal.returns-clause-ends_in_tree
returns-clause-ends_in_tree c = closed_ends_in_tree

pub returns-clause-one_more : goal.returns-clause-one_more
returns-clause-one_more c = one_call_more

pub returns-clause-opening : goal.returns-clause-opening
returns-clause-opening c = opening_opens
