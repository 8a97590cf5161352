-- Marks of tasks that are done.
use Rattle.std.proofs.Common.{◌≡◌, ℕ, ◌+◌, ◌-◌, ◌<◌, ◌≤◌, ◌⊎◌, inl, inr, List, length, set, get_or, Some, sym, ap, ◌∙◌, subst, arith, length-set, get_or-set_same, get_or-set_other}
use Rattle.std.proofs.lemmas.Bool.{cases_eq}
use Rattle.std.proofs.lemmas.List.Elements.{All-contains}
use Rattle.sp_word.specs.Word.{max_dist}
use Rattle.sp_word.specs.History.{Table}
use Rattle.sp_paths.specs.Paths.{IsGraph, IsVertex, HasArc, IsAtMost}
use Rattle.sp_paths.specs.Phase.{IsRelaxedAt}
use Rattle.sp_paths.specs.Rows.{IsArcRelaxed, light_of, heavy_of}
use Rattle.sp_paths.proofs.Walks.{arc_in}
use Rattle.sp_paths.proofs.RowSteps.{rows_hold_arcs}
use Rattle.sp_rounds.specs.declared.task.TaskKind.{TaskKind}
use Rattle.sp_rounds.specs.declared.task.TaskKind.TheVariants.{Light, Heavy}
use Rattle.sp_rounds.specs.declared.task.Task.{Task}
use Rattle.sp_phase.specs.declared.marks.LeaderMark.{LeaderMark}
use Rattle.sp_phase.specs.Stage.{Stage}
use Rattle.sp_phase.specs.Marks.{no_mark, mark_of, light_at, heavy_at, with_task, marks_with}
use Rattle.sp_phase.specs.Rounds.{IsRunning, IsDone}

-- the mark of a vertex after a write
mark_here : (marks : List LeaderMark) (v u : ℕ) (m : LeaderMark) → IsVertex (length marks) v → u ≡ v → mark_of (set marks (v - 1) m) u ≡ m
mark_here marks v u m at same = ap (λ x. get_or (set marks (v - 1) m) (x - 1) no_mark) same ∙ get_or-set_same marks (v - 1) m no_mark (let h = at in omega arith)

mark_other : (marks : List LeaderMark) (v u : ℕ) (m : LeaderMark) → 1 ≤ v → 1 ≤ u → (u ≡ v → ⊥) → mark_of (set marks (v - 1) m) u ≡ mark_of marks u
mark_other marks v u m at there ne = get_or-set_other marks (v - 1) (u - 1) m no_mark (λ same. ne (omega arith))

pub some_same : (a b : ℕ) → Some a ≡ Some b → a ≡ b
some_same a b e = cc

abbrev pub task_of : (kind : TaskKind) (u d : ℕ) → Task
task_of kind u d = record { vertex = u; dist = d; kind = kind }

-- what a done task says of an arc
module _ (P : ℕ) (st : Stage) (words : Table) (u d : ℕ) where
  done_light : IsDone P st words (task_of Light u d) → (v l : ℕ) → HasArc st.graph u v l → l ≤ st.delta → d + l ≤ max_dist P → IsAtMost (words v) (d + l) u
  done_light done v l a short fits =
      All-contains (IsArcRelaxed (max_dist P) words d) (light_of st.graph.arcs st.delta u) (record { tail = u; head = v; len = l }) done (((rows_hold_arcs st.graph st.delta).light u v l).0 (a, short)) fits

  done_heavy : IsDone P st words (task_of Heavy u d) → (v l : ℕ) → HasArc st.graph u v l → st.delta < l → d + l ≤ max_dist P → IsAtMost (words v) (d + l) u
  done_heavy done v l a long fits =
      All-contains (IsArcRelaxed (max_dist P) words d) (heavy_of st.graph.arcs st.delta u) (record { tail = u; head = v; len = l }) done (((rows_hold_arcs st.graph st.delta).heavy u v l).0 (a, long)) fits

-- marks that agree on the distances
pub running_same : (P : ℕ) (st : Stage) (words : Table) (marks after : List LeaderMark) → IsGraph st.graph → length after ≡ length marks
    → ((u : ℕ) → IsVertex st.graph.n u → (light_at after u ≡ light_at marks u) × (heavy_at after u ≡ heavy_at marks u)) → IsRunning P st words marks → IsRunning P st words after
running_same P st words marks after gr size same run = record {
  source = run.source;
  lawful = run.lawful;
  size = size ∙ run.size;
  relaxed = record {
    light_arcs = λ u v l d a short at fits. run.relaxed.light_arcs u v l d a short (sym (same u (arc_in st.graph gr u v l a).0).0 ∙ at) fits;
    heavy_arcs = λ u v l d a long at fits. run.relaxed.heavy_arcs u v l d a long (sym (same u (arc_in st.graph gr u v l a).0).1 ∙ at) fits;
  };
}

-- a task that is done is marked
module _ (P : ℕ) (st : Stage) (words : Table) (marks : List LeaderMark) (t d : ℕ) (gr : IsGraph st.graph) (run : IsRunning P st words marks) (at : IsVertex (length marks) t) where
  abbrev after : TaskKind → List LeaderMark
  after kind = marks_with marks (task_of kind t d)

  here : (kind : TaskKind) (u : ℕ) → u ≡ t → mark_of (after kind) u ≡ with_task kind d (mark_of marks t)
  here kind u same = mark_here marks t u (with_task kind d (mark_of marks t)) at same

  other : (kind : TaskKind) (u v l : ℕ) → HasArc st.graph u v l → (u ≡ t → ⊥) → mark_of (after kind) u ≡ mark_of marks u
  other kind u v l a ne = mark_other marks t u (with_task kind d (mark_of marks t)) at.0 (arc_in st.graph gr u v l a).0.0 ne

  light_light : IsDone P st words (task_of Light t d) → (u v l e : ℕ) → HasArc st.graph u v l → l ≤ st.delta → light_at (after Light) u ≡ Some e → e + l ≤ max_dist P → (u ≡ t) ⊎ (u ≡ t → ⊥) → IsAtMost (words v) (e + l) u
  light_light done u v l e a short is fits (inr ne) = run.relaxed.light_arcs u v l e a short (ap (λ m. m.light) (sym (other Light u v l a ne)) ∙ is) fits
  light_light done u v l e a short is fits (inl same) =
      let dist : d ≡ e = some_same d e (ap (λ m. m.light) (sym (here Light u same)) ∙ is) in
      let A : ℕ → ℕ → Type 0 = λ x y. HasArc st.graph x v l → y + l ≤ max_dist P → IsAtMost (words v) (y + l) x in
      subst (λ y. A u y) dist (subst (λ x. A x d) (sym same) (λ b f. done_light P st words t d done v l b short f)) a fits

  light_heavy : IsDone P st words (task_of Light t d) → (u v l e : ℕ) → HasArc st.graph u v l → st.delta < l → heavy_at (after Light) u ≡ Some e → e + l ≤ max_dist P → (u ≡ t) ⊎ (u ≡ t → ⊥) → IsAtMost (words v) (e + l) u
  light_heavy done u v l e a long is fits (inr ne) = run.relaxed.heavy_arcs u v l e a long (ap (λ m. m.heavy) (sym (other Light u v l a ne)) ∙ is) fits
  light_heavy done u v l e a long is fits (inl same) = run.relaxed.heavy_arcs u v l e a long (ap (λ x. heavy_at marks x) same ∙ (ap (λ m. m.heavy) (sym (here Light u same)) ∙ is)) fits

  heavy_heavy : IsDone P st words (task_of Heavy t d) → (u v l e : ℕ) → HasArc st.graph u v l → st.delta < l → heavy_at (after Heavy) u ≡ Some e → e + l ≤ max_dist P → (u ≡ t) ⊎ (u ≡ t → ⊥) → IsAtMost (words v) (e + l) u
  heavy_heavy done u v l e a long is fits (inr ne) = run.relaxed.heavy_arcs u v l e a long (ap (λ m. m.heavy) (sym (other Heavy u v l a ne)) ∙ is) fits
  heavy_heavy done u v l e a long is fits (inl same) =
      let dist : d ≡ e = some_same d e (ap (λ m. m.heavy) (sym (here Heavy u same)) ∙ is) in
      let A : ℕ → ℕ → Type 0 = λ x y. HasArc st.graph x v l → y + l ≤ max_dist P → IsAtMost (words v) (y + l) x in
      subst (λ y. A u y) dist (subst (λ x. A x d) (sym same) (λ b f. done_heavy P st words t d done v l b long f)) a fits

  heavy_light : IsDone P st words (task_of Heavy t d) → (u v l e : ℕ) → HasArc st.graph u v l → l ≤ st.delta → light_at (after Heavy) u ≡ Some e → e + l ≤ max_dist P → (u ≡ t) ⊎ (u ≡ t → ⊥) → IsAtMost (words v) (e + l) u
  heavy_light done u v l e a short is fits (inr ne) = run.relaxed.light_arcs u v l e a short (ap (λ m. m.light) (sym (other Heavy u v l a ne)) ∙ is) fits
  heavy_light done u v l e a short is fits (inl same) = run.relaxed.light_arcs u v l e a short (ap (λ x. light_at marks x) same ∙ (ap (λ m. m.light) (sym (here Heavy u same)) ∙ is)) fits

  by_kind : (kind : TaskKind) → IsDone P st words (task_of kind t d) → IsRelaxedAt st.graph (max_dist P) st.delta words (light_at (after kind)) (heavy_at (after kind))
  by_kind Light done = record {
    light_arcs = λ u v l e a short is fits. light_light done u v l e a short is fits (cases_eq u t);
    heavy_arcs = λ u v l e a long is fits. light_heavy done u v l e a long is fits (cases_eq u t);
  }
  by_kind Heavy done = record {
    light_arcs = λ u v l e a short is fits. heavy_light done u v l e a short is fits (cases_eq u t);
    heavy_arcs = λ u v l e a long is fits. heavy_heavy done u v l e a long is fits (cases_eq u t);
  }

  pub task_marked : (kind : TaskKind) → IsDone P st words (task_of kind t d) → IsRunning P st words (after kind)
  task_marked kind done = record {
    source = run.source;
    lawful = run.lawful;
    size = length-set marks (t - 1) (with_task kind d (mark_of marks t)) ∙ run.size;
    relaxed = by_kind kind done;
  }
