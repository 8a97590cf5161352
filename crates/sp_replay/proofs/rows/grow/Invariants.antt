use Rattle.std.proofs.Common.{◌-◌, vec_len}
use Rattle.sp_replay.specs.Rows.{lists_of, HaveSameRows}
use Rattle.sp_replay.proofs.rows.grow.Given as goal

abbrev pub invariant-loop-alloc : goal.invariant-loop-alloc
invariant-loop-alloc g l = HaveSameRows (lists_of l.initial.rows) (lists_of l.rows)

abbrev pub decreases-loop-alloc : goal.decreases-loop-alloc
decreases-loop-alloc g l = l.len - vec_len l.rows
