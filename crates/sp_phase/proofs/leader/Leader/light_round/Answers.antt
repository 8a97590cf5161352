use Rattle.std.proofs.Common.{[], get_or, sym, subst, arith}
use Rattle.std.specs.Prelude.{All}
use Rattle.std.proofs.lemmas.Result.{IfOk-weaker}
use Rattle.sp_paths.specs.Paths.{IsVertex}
use Rattle.sp_bins.specs.declared.entry.Entry.{Entry}
use Rattle.sp_phase.specs.Stage.{Stage}
use Rattle.sp_phase.specs.Rounds.{IsDue}
use Rattle.sp_phase.specs.Lead.{Lead, GoesOn, MakesDue}
use Rattle.sp_phase.specs.Running.{Leads}
use Rattle.sp_phase.proofs.MadeTasks.{goes_on, due_first, due_more}
use Rattle.sp_phase.proofs.leader.Leader.light_round.Goals as goal

pub loop-entry-init : goal.loop-entry-init
loop-entry-init g c =
    let a = c.args.self in
    let after = c.begin_round.new.self in
    let led = subst (λ (l : Lead). Leads g.row.P l.stage l) c.self.view_is c.self.invariant.1 in
    subst (λ ts. MakesDue g.row.P ts a after) (sym c.new-tasks.ensures.items) (subst (λ l. MakesDue g.row.P [] a l) (sym c.begin_round.ensures) (due_first g.row.P a led).0)

pub light_task-requires : goal.light_task-requires
light_task-requires g c =
    let none : Entry = record { vertex = 0; dist = 0 } in
    let e = get_or c.args.entries.now c.loop-entry.entry-index none in
    (omega arith, subst (λ (s : Stage). IsVertex s.graph.n e.vertex) (sym c.loop-entry.invariant.goes.stage) (c.requires c.loop-entry.entry-index none c.loop-entry-test.true).0)

pub loop-entry-preserved : goal.loop-entry-preserved
loop-entry-preserved g c =
    let after = c.light_task.new.self in
    subst (λ ts. MakesDue g.row.P ts c.args.self after) (sym c.in_ok-push_some.ensures) (due_more g.row.P c.args.self c.loop-entry.self after c.loop-entry.tasks.items _ c.loop-entry.invariant c.in_ok-task.ensures)

pub run_tasks-requires-after_bounds : goal.run_tasks-requires-after_bounds
run_tasks-requires-after_bounds g c κs within =
    let due = c.loop-entry.invariant in
    (omega arith, subst (λ x. All (IsDue g.row.P x) c.loop-entry.tasks.items) (sym due.goes.stage) due.due)

pub returns : goal.returns
returns g c =
    let b = c.loop-entry.self in
    IfOk-weaker c.run_tasks.result (GoesOn g.row.P b) _ (λ done ran. goes_on g.row.P c.args.self b done c.loop-entry.invariant.goes ran) c.run_tasks.ensures
