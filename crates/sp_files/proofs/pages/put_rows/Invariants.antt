use Rattle.std.proofs.Common.{◌≡◌, ◌*◌, ◌≤◌, ◌++◌, length, drop}
use Rattle.sp_files.proofs.pages.put_rows.Given as goal

abbrev pub invariant-loop-left : goal.invariant-loop-left
invariant-loop-left g l = record {
  room : g.R.RowSource.size l.left * 56 ≤ l.start;
  within : l.start ≤ length l.bytes;
  text : g.R.RowSource.text l.fn.rows ≡ g.R.RowSource.text l.left ++ drop l.start l.bytes;
}

abbrev pub decreases-loop-left : goal.decreases-loop-left
decreases-loop-left g l = g.R.RowSource.size l.left
