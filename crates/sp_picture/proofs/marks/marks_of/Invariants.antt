use Rattle.std.proofs.Common.{◌≡◌, ◌++◌, drop, length}
use Rattle.sp_machine.specs.Run.{opening_machine}
use Rattle.sp_picture.specs.Marks.{marks_from}
use Rattle.sp_picture.proofs.marks.marks_of.Given as goal

abbrev pub invariant-loop-actor : goal.invariant-loop-actor
invariant-loop-actor g l = record {
  actors : length l.machine.actors ≡ l.programme.actors;
  rest : l.marks.items ++ marks_from l.machine (drop l.actor-index l.steps) ≡ marks_from (opening_machine l.programme) l.steps;
}
