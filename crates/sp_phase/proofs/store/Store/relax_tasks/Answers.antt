use Rattle.std.proofs.Common.{◌≡◌, ◌≤◌, ◌∙◌, sym, ap, subst, arith}
use Rattle.std.specs.Prelude.{All}
use Rattle.sp_phase.specs.Stage.{Stage}
use Rattle.sp_phase.specs.Rounds.{IsDue}
use Rattle.sp_phase.proofs.StageTasks.{tasks_allowed}
use Rattle.sp_phase.proofs.store.Store.relax_tasks.Goals as goal

pub run_round-requires-after_bounds : goal.run_round-requires-after_bounds
run_round-requires-after_bounds g c κs within =
    let i = c.self.inside in
    let st : Stage = record { graph = i.graph.now; source = i.source; delta = i.delta; table = i.table.id; claims = i.claims; shared_from = i.shared_from } in
    let is : st ≡ c.args.self.now = c.self.view_is in
    let held = c.self.invariant.1 in
    let rows = ap (λ r. r.graph.n) held.rows in
    let due : All (IsDue g.row.P st) c.args.tasks.now = subst (λ s. All (IsDue g.row.P s) c.args.tasks.now) (sym is) c.requires.tasks in (
      omega arith,
      (
        c.self.invariant.0.layout,
        (
          held.vertices ∙ sym rows,
          (
            subst (λ m. m ≤ i.claims.words) (sym rows) held.slots,
            (
              c.requires.caller ∙ ap (λ s. s.table) (sym is),
              (
                c.requires.claimer ∙ ap (λ s. s.claims) (sym is),
                tasks_allowed g.row.P st i.rows i.table.law i.table.vertices i.claims.words held c.walks_allow_arcs.ensures c.self.invariant.0 c.args.tasks.now due,
              ),
            ),
          ),
        ),
      ),
    )
