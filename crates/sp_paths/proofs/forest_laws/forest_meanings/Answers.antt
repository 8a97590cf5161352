use Rattle.sp_paths.proofs.Least.{nearest_is_least_of_all}
use Rattle.sp_paths.proofs.Only.{forests_are_one}
use Rattle.sp_paths.proofs.OneForest.{forest_of_one_is_tree}
use Rattle.sp_paths.proofs.Existence.{forests_exist}
use Rattle.sp_paths.proofs.SameSources.{sources_are_a_set}
use Rattle.sp_paths.proofs.forest_laws.forest_meanings.Goals as goal

pub returns-clause-least : goal.returns-clause-least
returns-clause-least c = nearest_is_least_of_all

pub returns-clause-one : goal.returns-clause-one
returns-clause-one c = forests_are_one

pub returns-clause-tree : goal.returns-clause-tree
returns-clause-tree c = forest_of_one_is_tree

pub returns-clause-set : goal.returns-clause-set
returns-clause-set c = sources_are_a_set

pub returns-clause-some : goal.returns-clause-some
returns-clause-some c = forests_exist
