use Rattle.std.proofs.Common.{◌≤◌, [], ◌∷◌, arith}
use Rattle.std.proofs.lemmas.List.Elements.{All-cons, All-nil}
use Rattle.sp_paths.specs.Paths.{IsVertex}
use Rattle.sp_rounds.specs.declared.task.Task.{Task}
use Rattle.sp_rounds.specs.declared.task.TaskKind.TheVariants.{Light}
use Rattle.sp_rounds.proofs.Checks.{any_tasks}
use Rattle.tests_refused.proofs.rounds.tasks_over.Goals as goal

pub returns : goal.returns
returns c =
    let InRange : Task → Type 0 = λ t. IsVertex c.args.rows.now.graph.n t.vertex × (t.dist ≤ 1000000000) in
    let second : Task = record { vertex = 2; dist = 1; kind = Light } in
    let third : Task = record { vertex = 3; dist = 1; kind = Light } in
    any_tasks c.args.rows.now (second ∷ third ∷ []) c.n.ensures.graph (omega arith)
    (All-cons InRange second (third ∷ []) ((omega arith, omega arith), omega arith) (All-cons InRange third [] ((omega arith, omega arith), omega arith) (All-nil InRange)))
