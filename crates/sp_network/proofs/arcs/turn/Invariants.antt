use Rattle.std.proofs.Common.{◌≡◌, ◌++◌, take, drop}
use Rattle.sp_network.specs.Turned.{turned}
use Rattle.sp_network.proofs.arcs.turn.Given as goal

abbrev pub invariant-loop-i : goal.invariant-loop-i
invariant-loop-i l = l.arcs ≡ turned (take l.i l.initial.arcs) ++ drop l.i l.initial.arcs
