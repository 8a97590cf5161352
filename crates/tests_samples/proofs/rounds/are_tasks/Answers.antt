use Rattle.std.proofs.Common.{arith, ◌≤◌}
use Rattle.sp_paths.specs.Paths.{IsVertex}
use Rattle.sp_rounds.specs.declared.task.Task.{Task}
use Rattle.sp_rounds.specs.declared.task.TaskKind.TheVariants.{Light}
use Rattle.sp_rounds.proofs.Checks.{all_more}
use Rattle.tests_samples.proofs.rounds.are_tasks.Goals as goal

pub loop-task-preserved : goal.loop-task-preserved
loop-task-preserved c =
    all_more (λ (t : Task). IsVertex c.args.n t.vertex × (t.dist ≤ 1000000000)) c.args.tasks.now c.loop-task.task-index (record { vertex = 0; dist = 0; kind = Light }) c.loop-task-test.true c.loop-task.invariant
    ((omega arith, omega arith), omega arith)
