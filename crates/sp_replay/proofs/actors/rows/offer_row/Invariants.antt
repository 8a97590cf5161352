use Rattle.std.proofs.Common.{◌≡◌, ◌-◌, length}
use Rattle.sp_machine.specs.Programme.{row_of}
use Rattle.sp_replay.specs.Made.{KnowsItems}
use Rattle.sp_replay.proofs.actors.rows.offer_row.Given as goal

abbrev pub invariant-loop-item : goal.invariant-loop-item
invariant-loop-item g l = record {
  table : l.caller.table ≡ l.fn.caller.table;
  made : KnowsItems l.programme l.actor l.place l.caller.story;
}

abbrev pub decreases-loop-item : goal.decreases-loop-item
decreases-loop-item g l = length (row_of l.programme.rows l.actor) - l.place
