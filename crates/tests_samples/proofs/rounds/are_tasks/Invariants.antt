use Rattle.std.proofs.Common.{ℕ, ◌<◌, ◌≤◌, get_or}
use Rattle.sp_paths.specs.Paths.{IsVertex}
use Rattle.sp_rounds.specs.declared.task.Task.{Task}
use Rattle.tests_samples.proofs.rounds.are_tasks.Given as goal

abbrev pub invariant-loop-task : goal.invariant-loop-task
invariant-loop-task l = (k : ℕ) (d : Task) → k < l.task-index → IsVertex l.n (get_or l.tasks k d).vertex × ((get_or l.tasks k d).dist ≤ 1000000000)
