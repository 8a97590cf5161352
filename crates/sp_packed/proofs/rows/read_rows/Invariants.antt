use Rattle.std.proofs.Common.{◌≡◌, ◌-◌, ◌≤◌, length, get_or}
use Rattle.sp_graph.specs.Lengths.{AreLengths}
use Rattle.sp_packed.specs.Rows.{AreRows, IsNextRow, HasRows}
use Rattle.sp_packed.proofs.rows.read_rows.Given as goal

abbrev pub invariant-loop-arcs : goal.invariant-loop-arcs
invariant-loop-arcs g l =
    HasRows (g.R.Read.left l.fn.reader) (g.R.Read.left l.reader) l.fn.block.sum l.block.sum l.arcs.items
    × AreRows l.n l.ends l.arcs.items × IsNextRow l.n l.ends (length l.arcs.items) l.row
    × (length l.arcs.items ≤ l.m) × (l.m ≡ get_or l.ends l.n 0)
    × (g.R.Read.failing l.reader ≡ g.R.Read.failing l.fn.reader)
    × AreLengths l.arcs.items l.lengths

abbrev pub decreases-loop-arcs : goal.decreases-loop-arcs
decreases-loop-arcs g l = l.m - length l.arcs.items
