use Rattle.sp_paths.specs.Paths.{IsVertex}
use Rattle.spt_example.proofs.paths.path_to.Given as goal

abbrev pub invariant-loop : goal.invariant-loop
invariant-loop l = IsVertex l.tree.n l.vertex
