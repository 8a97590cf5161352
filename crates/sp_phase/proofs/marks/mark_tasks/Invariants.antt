use Rattle.std.proofs.Common.{◌≡◌, length, take}
use Rattle.sp_phase.specs.Marks.{marks_after}
use Rattle.sp_phase.specs.Rounds.{KeepsRunning}
use Rattle.sp_phase.proofs.marks.mark_tasks.Given as goal

abbrev pub invariant-loop-task : goal.invariant-loop-task
invariant-loop-task l = (length l.marks.items ≡ length l.fn.marks.items) × KeepsRunning l.tasks l.fn.marks.items l.marks.items × (l.marks.items ≡ marks_after l.fn.marks.items (take l.task-index l.tasks))
