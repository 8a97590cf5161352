-- What a leader records about each vertex.
use Rattle.std.specs.Prelude.{◌≡◌, ℕ, ◌-◌, ◌⊎◌, List, [], ◌∷◌, ◌++◌, length, slice_index_or, slice_set, fold, Option, Some, None, Bool, true, false}
use Rattle.sp_paths.specs.Paths.{IsVertex}
use Rattle.sp_phase.specs.declared.marks.LeaderMark.{LeaderMark}
use Rattle.sp_phase.specs.declared.marks.LeaderMarks.{LeaderMarks}
use Rattle.sp_rounds.specs.declared.task.TaskKind.{TaskKind}
use Rattle.sp_rounds.specs.declared.task.TaskKind.TheVariants.{Light, Heavy}
use Rattle.sp_rounds.specs.declared.task.Task.{Task}

-- These are the marks of all vertices, and the vertices that are remembered.
pub record NotedMarks : Type 0 where
  pub each : List LeaderMark
  pub remembered : List ℕ

-- This is what contracts see of the leader's marks.
abbrev pub notes_of : LeaderMarks → NotedMarks
notes_of m = record { each = m.each.items; remembered = m.remembered.items }

-- This is the mark of a vertex that took part in no round.
abbrev pub no_mark : LeaderMark
no_mark = record { light = None; heavy = None; round = 0; remembered = false }

-- This is the mark of a vertex; vertex v has index v - 1.
abbrev pub mark_of : List LeaderMark → (v : ℕ) → LeaderMark
mark_of marks v = slice_index_or marks (v - 1) no_mark

-- This is the distance at which the light arcs of the vertex were last relaxed.
abbrev pub light_at : List LeaderMark → (v : ℕ) → Option ℕ
light_at marks v = (mark_of marks v).light

-- This is the distance at which its heavy arcs were last relaxed.
abbrev pub heavy_at : List LeaderMark → (v : ℕ) → Option ℕ
heavy_at marks v = (mark_of marks v).heavy

-- A task of this kind was run at the distance.
abbrev pub with_task : TaskKind → (dist : ℕ) → LeaderMark → LeaderMark
with_task Light dist mark = record mark { light = Some dist }
with_task Heavy dist mark = record mark { heavy = Some dist }

-- These are the marks once the task was run.
abbrev pub marks_with : List LeaderMark → Task → List LeaderMark
marks_with marks t = slice_set marks (t.vertex - 1) (with_task t.kind t.dist (mark_of marks t.vertex))

-- These are the marks once the tasks were run, one after the other.
abbrev pub marks_after : List LeaderMark → List Task → List LeaderMark
marks_after marks tasks = fold marks_with marks tasks

-- The recorded distances of each vertex stay the same.
abbrev pub SameDistances : (before after : List LeaderMark) → Type 0
SameDistances before after = (length after ≡ length before) × ((v : ℕ) → IsVertex (length before) v → (light_at after v ≡ light_at before v) × (heavy_at after v ≡ heavy_at before v))

-- The vertex is remembered.
abbrev pub Remembers : (before after : NotedMarks) → (v : ℕ) → Type 0
Remembers before after v = (after.remembered ≡ before.remembered) ⊎ (after.remembered ≡ before.remembered ++ v ∷ [])

-- The heavy arcs of the vertex are to be relaxed when the bucket is done.
abbrev pub is_remembered : List LeaderMark → (v : ℕ) → Bool
is_remembered marks v = (mark_of marks v).remembered

-- The vertex enters a round, and is remembered.
pub record Enters (before after : NotedMarks) (v : ℕ) : Type 0 where
  pub flags : (u : ℕ) → IsVertex (length before.each) u → is_remembered after.each u ≡ true → (u ≡ v) ⊎ (is_remembered before.each u ≡ true)
  pub list : ((is_remembered before.each v ≡ true) × (after.remembered ≡ before.remembered)) ⊎ (after.remembered ≡ before.remembered ++ v ∷ [])

-- The vertex is no longer remembered.
abbrev pub Forgets : (before after : List LeaderMark) → (v : ℕ) → Type 0
Forgets before after v = (u : ℕ) → IsVertex (length before) u → is_remembered after u ≡ true → (u ≡ v → ⊥) × (is_remembered before u ≡ true)
