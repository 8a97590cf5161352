use Rattle.sp_paths.proofs.SameArcs.{same_arcs_same_answers}
use Rattle.sp_paths.proofs.laws.bag_of_arcs.Goals as goal

pub returns : goal.returns
returns c = same_arcs_same_answers
