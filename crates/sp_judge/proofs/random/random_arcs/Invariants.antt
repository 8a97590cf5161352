use Rattle.std.specs.Prelude.{All}
use Rattle.sp_paths.specs.Paths.{IsArc}
use Rattle.sp_judge.proofs.random.random_arcs.Given as goal

abbrev pub invariant-loop : goal.invariant-loop
invariant-loop l = All (IsArc l.shape.n) l.arcs.items
