use Rattle.std.proofs.Common.{refl, subst, ℕ, ◌≤◌}
use Rattle.std.specs.Prelude.{All}
use Rattle.sp_paths.specs.Paths.{IsVertex}
use Rattle.sp_rounds.specs.declared.task.Task.{Task}
use Rattle.sp_rounds.proofs.Checks.{any_tasks}
use Rattle.tests_samples.proofs.rounds.any_tasks.Goals as goal

pub returns-then-are_tasks : goal.returns-then-are_tasks
returns-then-are_tasks c =
    any_tasks c.args.rows.now c.args.tasks.now c.n.ensures.graph c.requires
    (subst (λ (m : ℕ). All (λ (t : Task). IsVertex m t.vertex × (t.dist ≤ 1000000000)) c.args.tasks.now) c.n.ensures.n (c.if-are_tasks.ensures refl))
