use Rattle.std.proofs.Common.{ℕ, List, [], get_or, ap, sym, subst, ◌∙◌, arith}
use Rattle.std.specs.Prelude.{All}
use Rattle.std.proofs.lemmas.Result.{IfOk-weaker}
use Rattle.sp_paths.specs.Paths.{IsVertex}
use Rattle.sp_phase.specs.Stage.{Stage}
use Rattle.sp_phase.specs.Rounds.{IsDue}
use Rattle.sp_phase.specs.Lead.{Lead, GoesOn, MakesDue, lead_without_memory}
use Rattle.sp_phase.specs.Running.{Leads}
use Rattle.sp_phase.proofs.MadeTasks.{goes_on, due_first, due_more}
use Rattle.sp_phase.proofs.leader.Leader.heavy_round.Goals as goal

pub loop-vertex-init : goal.loop-vertex-init
loop-vertex-init g c =
    let a = c.args.self in
    let after = c.recall-vertices.new.self in
    let led = subst (λ (l : Lead). Leads g.row.P l.stage l) c.self.view_is c.self.invariant.1 in
    let is = c.recall-vertices.ensures.marks ∙ ap lead_without_memory c.begin_round.ensures in
    subst (λ ts. MakesDue g.row.P ts a after) (sym c.new-tasks.ensures.items) (subst (λ l. MakesDue g.row.P [] a l) (sym is) (due_first g.row.P a led).1)

pub heavy_task-task-requires : goal.heavy_task-task-requires
heavy_task-task-requires g c =
    let a = c.args.self in
    let vs = c.as_slice-vertex-items.result.now in
    let led = subst (λ (l : Lead). Leads g.row.P l.stage l) c.self.view_is c.self.invariant.1 in
    let listed = c.as_slice-vertex-items.ensures.value ∙ (c.recall-vertices.ensures.vertices ∙ ap (λ (l : Lead). l.marks.remembered) c.begin_round.ensures) in
    let V : List ℕ → Type 0 = λ xs. All (IsVertex a.stage.graph.n) xs in
    let all = subst V (sym listed) led.holds.remembered in
    (omega arith, subst (λ (s : Stage). IsVertex s.graph.n (get_or vs c.loop-vertex.vertex-index 0)) (sym c.loop-vertex.invariant.goes.stage) (all c.loop-vertex.vertex-index 0 c.loop-vertex-test.true))

pub loop-vertex-preserved : goal.loop-vertex-preserved
loop-vertex-preserved g c =
    let after = c.heavy_task-task.new.self in
    subst (λ ts. MakesDue g.row.P ts c.args.self after) (sym c.in_ok-push_some.ensures) (due_more g.row.P c.args.self c.loop-vertex.self after c.loop-vertex.tasks.items _ c.loop-vertex.invariant c.heavy_task-task.ensures)

pub run_tasks-requires-after_bounds : goal.run_tasks-requires-after_bounds
run_tasks-requires-after_bounds g c κs within =
    let due = c.loop-vertex.invariant in
    (omega arith, subst (λ x. All (IsDue g.row.P x) c.loop-vertex.tasks.items) (sym due.goes.stage) due.due)

pub returns : goal.returns
returns g c =
    let b = c.loop-vertex.self in
    IfOk-weaker c.run_tasks.result (GoesOn g.row.P b) _ (λ done ran. goes_on g.row.P c.args.self b done c.loop-vertex.invariant.goes ran) c.run_tasks.ensures
