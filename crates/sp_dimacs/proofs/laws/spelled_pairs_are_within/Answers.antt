use Rattle.sp_dimacs.proofs.Limits.{pairs_within}
use Rattle.sp_dimacs.proofs.laws.spelled_pairs_are_within.Goals as goal

pub returns : goal.returns
returns c = pairs_within
