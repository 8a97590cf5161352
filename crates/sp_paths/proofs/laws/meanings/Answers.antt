use Rattle.sp_paths.proofs.Least.{least_exists}
use Rattle.sp_paths.proofs.Only.{answers_are_one, far_is_meant}
use Rattle.sp_paths.proofs.laws.meanings.Goals as goal

pub returns-clause-least : goal.returns-clause-least
returns-clause-least c = λ g s v e graph walk. least_exists g graph s v e walk

pub returns-clause-one : goal.returns-clause-one
returns-clause-one c = answers_are_one

pub returns-clause-far : goal.returns-clause-far
returns-clause-far c = far_is_meant
