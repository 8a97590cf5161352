use Rattle.std.proofs.Common.{◌≡◌, ◌*◌, ◌≤◌, length, take, drop}
use Rattle.sp_network.specs.Turned.{with_turned}
use Rattle.sp_network.proofs.arcs.insert_turned.Given as goal

abbrev pub invariant-loop-left : goal.invariant-loop-left
invariant-loop-left l = record {
  count : l.left ≤ length l.fn.arcs.items;
  size : length l.arcs.items ≡ 2 * length l.fn.arcs.items;
  first : take l.left l.arcs.items ≡ take l.left l.fn.arcs.items;
  moved : drop (2 * l.left) l.arcs.items ≡ with_turned (drop l.left l.fn.arcs.items);
}

abbrev pub decreases-loop-left : goal.decreases-loop-left
decreases-loop-left l = l.left
