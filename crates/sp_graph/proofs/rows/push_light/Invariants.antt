use Rattle.std.proofs.Common.{◌≡◌, ◌++◌, take, leb}
use Rattle.std.specs.Prelude.{filter}
use Rattle.sp_graph.proofs.rows.push_light.Given as goal

abbrev pub invariant-loop-arc : goal.invariant-loop-arc
invariant-loop-arc l = l.arcs.items ≡ l.initial.arcs.items ++ filter (λ a. leb a.len l.delta) (take l.arc-index l.row)
