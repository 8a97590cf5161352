-- Under the law of walks, the offers of a task are lawful.
use Rattle.std.proofs.Common.{◌≡◌, ℕ, ◌+◌, ◌<◌, inr, length, get_or, sym, subst, arith}
use Rattle.std.specs.Prelude.{Contains, nat_le, nat_lt}
use Rattle.std.proofs.lemmas.List.Elements.{All-contains, Contains-get_or}
use Rattle.sp_paths.specs.declared.arc.Arc.{Arc}
use Rattle.sp_paths.specs.Paths.{IsGraph, HasArc, HasWalkBy, IsVertex, IsArc}
use Rattle.sp_paths.specs.Rows.{row_of}
use Rattle.sp_paths.proofs.Walks.{arc_in, walk_by}
use Rattle.sp_paths.proofs.RowSteps.{kept, in_row}
use Rattle.sp_graph.specs.RowsValue.{Split}
use Rattle.sp_rounds.specs.declared.task.TaskKind.{TaskKind}
use Rattle.sp_rounds.specs.declared.task.TaskKind.TheVariants.{Light, Heavy}
use Rattle.sp_rounds.specs.declared.task.Task.{Task}
use Rattle.sp_rounds.specs.Offers.{arcs_of, arcs_of_kind}
use Rattle.sp_rounds.specs.Walking.{WalksAllowArcs}

in_kind : (rows : Split) (kind : TaskKind) (v : ℕ) (a : Arc) → Contains (arcs_of_kind rows kind v) a → Contains rows.graph.arcs a × (a.tail ≡ v)
in_kind rows Light v a c = in_row rows.graph.arcs v a (kept (λ x. nat_le x.len rows.delta) (row_of rows.graph.arcs v) a c).0
in_kind rows Heavy v a c = in_row rows.graph.arcs v a (kept (λ x. nat_lt rows.delta x.len) (row_of rows.graph.arcs v) a c).0

-- the tail of an arc of a row is a vertex
pub tail_inside : (rows : Split) (t : Task) (k : ℕ) (d : Arc) → IsGraph rows.graph → k < length (arcs_of rows t) → IsVertex rows.graph.n (get_or (arcs_of rows t) k d).tail
tail_inside rows t k d graph low =
    let h = in_kind rows t.kind t.vertex (get_or (arcs_of rows t) k d) (Contains-get_or (arcs_of rows t) k d low) in
    (All-contains (IsArc rows.graph.n) rows.graph.arcs (get_or (arcs_of rows t) k d) graph h.0).0

pub walks_allow : WalksAllowArcs
walks_allow P s rows t graph few walk k d low fits =
    let a = get_or (arcs_of rows t) k d in
    let h = in_kind rows t.kind t.vertex a (Contains-get_or (arcs_of rows t) k d low) in
    let is : a ≡ record { tail = t.vertex; head = a.head; len = a.len } = (λ i. record { tail = h.1 i; head = a.head; len = a.len }) in
    let arc : HasArc rows.graph t.vertex a.head a.len = subst (λ (x : Arc). Contains rows.graph.arcs x) is h.0 in
    let inside = (arc_in rows.graph graph t.vertex a.head a.len arc).0 in
    let by : HasWalkBy rows.graph s a.head (t.dist + a.len) a.tail = subst (λ p. HasWalkBy rows.graph s a.head (t.dist + a.len) p) (sym h.1) (walk_by rows.graph s t.vertex a.head t.dist a.len walk arc) in
    (tt, (fits, (let e = h.1 in let v = inside.1 in omega arith)), inr by)
