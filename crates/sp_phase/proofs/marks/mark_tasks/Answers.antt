use Rattle.std.proofs.Common.{◌≡◌, ℕ, ◌-◌, ◌<◌, length, get_or, refl, ap, ◌∙◌, sym, arith, length-set}
use Rattle.std.proofs.lemmas.List.Sums.{fold_more}
use Rattle.sp_paths.specs.Paths.{IsVertex}
use Rattle.sp_rounds.specs.declared.task.TaskKind.TheVariants.{Light}
use Rattle.sp_rounds.specs.declared.task.Task.{Task}
use Rattle.sp_phase.specs.declared.marks.LeaderMark.{LeaderMark}
use Rattle.sp_phase.specs.Marks.{mark_of, with_task, marks_with}
use Rattle.sp_phase.proofs.TaskMarks.{task_marked}
use Rattle.sp_phase.proofs.marks.mark_tasks.Goals as goal

pub loop-task-preserved : goal.loop-task-preserved
loop-task-preserved c =
    let none : Task = record { vertex = 0; dist = 0; kind = Light } in
    let tasks = c.args.tasks.now in
    let i : ℕ = c.loop-task.task-index in
    let t : Task = get_or tasks i none in
    let inside : i < length tasks = c.loop-task-test.true in
    let marks = c.loop-task.marks.items in
    let size : length marks ≡ length c.args.marks.now.items = c.loop-task.invariant.0 in
    let ok : length c.args.marks.now.items ≡ c.args.marks.now.len = sym c.args.marks.now.ok.0 in
    let at : IsVertex (length marks) t.vertex = (let h = c.requires i none inside in (omega (arith, h), omega (arith, h))) in (
      ap length c.mark_task.ensures ∙ (length-set {A = LeaderMark} marks (t.vertex - 1) (with_task t.kind t.dist (mark_of marks t.vertex)) ∙ size),
      λ P st words gr done run. rw c.mark_task.ensures (task_marked P st words marks t.vertex t.dist gr (c.loop-task.invariant.1 P st words gr done run) at t.kind (done i none inside)),
      c.mark_task.ensures ∙ (ap (λ ms. marks_with ms t) c.loop-task.invariant.2 ∙ sym (fold_more marks_with c.args.marks.now.items tasks i none inside)),
    )

pub loop-task-init : goal.loop-task-init
loop-task-init c = (refl, λ P st words gr done run. run, refl)
