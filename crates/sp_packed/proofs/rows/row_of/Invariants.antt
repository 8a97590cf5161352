use Rattle.std.proofs.Common.{◌-◌}
use Rattle.sp_packed.specs.Rows.{IsNextRow}
use Rattle.sp_packed.proofs.rows.row_of.Given as goal

abbrev pub invariant-loop-row : goal.invariant-loop-row
invariant-loop-row l = IsNextRow l.n l.ends l.k l.row

abbrev pub decreases-loop-row : goal.decreases-loop-row
decreases-loop-row l = l.n - l.row
