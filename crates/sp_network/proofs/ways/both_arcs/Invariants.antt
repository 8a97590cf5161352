use Rattle.std.proofs.Common.{◌≡◌, take}
use Rattle.sp_network.specs.Turned.{with_turned}
use Rattle.sp_network.proofs.ways.both_arcs.Given as goal

abbrev pub invariant-loop-arc : goal.invariant-loop-arc
invariant-loop-arc l = l.arcs.items ≡ with_turned (take l.arc-index l.arc-items)
