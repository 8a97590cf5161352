use Rattle.sp_paths.proofs.Finished.{finished_is_forest, finished_is_far}
use Rattle.sp_paths.proofs.forest_laws.finished_forest.Goals as goal

pub returns-clause-is_forest : goal.returns-clause-is_forest
returns-clause-is_forest c = finished_is_forest

pub returns-clause-is_far : goal.returns-clause-is_far
returns-clause-is_far c = finished_is_far
