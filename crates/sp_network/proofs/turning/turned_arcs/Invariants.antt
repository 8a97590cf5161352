use Rattle.std.proofs.Common.{◌≡◌, take}
use Rattle.sp_network.specs.Turned.{turned}
use Rattle.sp_network.proofs.turning.turned_arcs.Given as goal

abbrev pub invariant-loop-arc : goal.invariant-loop-arc
invariant-loop-arc l = l.arcs.items ≡ turned (take l.arc-index l.arc-items)
