use Rattle.std.proofs.Common.{◌≡◌, ◌++◌, take, ltb}
use Rattle.std.specs.Prelude.{filter}
use Rattle.sp_graph.proofs.rows.push_heavy.Given as goal

abbrev pub invariant-loop-arc : goal.invariant-loop-arc
invariant-loop-arc l = l.arcs.items ≡ l.initial.arcs.items ++ filter (λ a. ltb l.delta a.len) (take l.arc-index l.row)
