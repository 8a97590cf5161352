use Rattle.std.specs.Prelude.{All}
use Rattle.sp_paths.specs.Paths.{IsArc}
use Rattle.sp_network.proofs.turned_tests.arcs_of.Given as goal

abbrev pub invariant-loop-triple : goal.invariant-loop-triple
invariant-loop-triple l = All (IsArc l.n) l.arcs.items
