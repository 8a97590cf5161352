use Rattle.sp_dimacs.proofs.Limits.{sources_within}
use Rattle.sp_dimacs.proofs.laws.spelled_sources_are_within.Goals as goal

pub returns : goal.returns
returns c = sources_within
