-- Tasks of a stage are tasks of its rows and its table.
use Rattle.std.proofs.Common.{ℕ, List, get_or, sym, subst}
use Rattle.std.specs.Prelude.{All}
use Rattle.sp_word.specs.Word.{max_dist}
use Rattle.sp_paths.specs.Paths.{IsLawful}
use Rattle.sp_graph.specs.RowsValue.{Split}
use Rattle.sp_offer.specs.Order.{lawful}
use Rattle.sp_rounds.specs.declared.task.Task.{Task}
use Rattle.sp_rounds.specs.Offers.{IsTask}
use Rattle.sp_run.specs.Walks.{WalksFrom}
use Rattle.sp_rounds.specs.Walking.{WalksAllowArcs}
use Rattle.sp_phase.specs.Stage.{Stage, IsStage, AreOfStage, rows_of}
use Rattle.sp_phase.specs.Rounds.{IsDue}

module _ (P : ℕ) (st : Stage) (split : Split) (walks : WalksFrom) (words claims : ℕ) (of : AreOfStage st split walks words claims) where
  pub tasks_allowed : WalksAllowArcs → IsStage P st → (tasks : List Task) → All (IsDue P st) tasks → All (IsTask (lawful P (IsLawful walks.graph walks.source)) (max_dist P) split) tasks
  tasks_allowed allow stage tasks due =
      let T : Split → WalksFrom → Type 0 = λ r w. All (IsTask (lawful P (IsLawful w.graph w.source)) (max_dist P) r) tasks in
      let here : T (rows_of st) (record { graph = st.graph; source = st.source }) = λ k d lt. (let t = get_or tasks k d in let h = due k d lt in (h.0, h.1, allow P st.source (rows_of st) t stage.graph stage.most h.2)) in
      subst (λ w. T split w) (sym of.law) (subst (λ r. T r (record { graph = st.graph; source = st.source })) (sym of.rows) here)
