use Rattle.sp_dimacs.specs.declared.formats.TheConstants.{MOST_ARCS}
use Rattle.sp_dimacs.proofs.Limits.{graph_within}
use Rattle.sp_dimacs.proofs.laws.spelled_graph_is_within.Goals as goal

pub returns : goal.returns
returns c = λ P file h. graph_within P MOST_ARCS file h
