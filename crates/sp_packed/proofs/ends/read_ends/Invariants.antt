use Rattle.std.proofs.Common.{◌≡◌, ◌+◌, ◌-◌, ◌≤◌, length}
use Rattle.sp_packed.specs.Ends.{AreFirstEnds, HasEnds}
use Rattle.sp_packed.proofs.ends.read_ends.Given as goal

abbrev pub invariant-loop-ends : goal.invariant-loop-ends
invariant-loop-ends g l =
    HasEnds (g.R.Read.left l.fn.reader) (g.R.Read.left l.reader) l.fn.block.sum l.block.sum l.ends.items
    × AreFirstEnds l.n l.m l.ends.items × (length l.ends.items ≤ l.count) × (l.count ≡ l.n + 1)
    × (g.R.Read.failing l.reader ≡ g.R.Read.failing l.fn.reader)

abbrev pub decreases-loop-ends : goal.decreases-loop-ends
decreases-loop-ends g l = l.count - length l.ends.items
