-- What a loop has found of the elements so far.
use Rattle.std.proofs.Common.{ℕ, zero, suc, ◌+◌, ◌<◌, ◌≤◌, List, [], ◌∷◌, length, get_or, arith}
use Rattle.std.specs.Prelude.{All}
use Rattle.sp_word.specs.Word.{max_dist}
use Rattle.sp_paths.specs.Paths.{IsGraph, IsVertex}
use Rattle.sp_graph.specs.RowsValue.{Split}
use Rattle.sp_offer.specs.Order.{lawful}
use Rattle.sp_rounds.specs.declared.task.Task.{Task}
use Rattle.sp_rounds.specs.Offers.{IsTask}
use Rattle.sp_rounds.proofs.WalkLaw.{tail_inside}

-- the elements below i, and the one at i
pub all_more : {X : Type 0} (P : X → Type 0) (xs : List X) (i : ℕ) (e : X) → i < length xs → ((k : ℕ) (d : X) → k < i → P (get_or xs k d)) → P (get_or xs i e) → (k : ℕ) (d : X) → k < i + 1 → P (get_or xs k d)
all_more P [] i e low below here k d h = absurd (omega arith)
all_more P (x ∷ xs) zero e low below here zero d h = here
all_more P (x ∷ xs) zero e low below here (suc k) d h = absurd (omega arith)
all_more P (x ∷ xs) (suc i) e low below here zero d h = below zero d (omega arith)
all_more P (x ∷ xs) (suc i) e low below here (suc k) d h = all_more P xs i e (omega arith) (λ j f g. below (suc j) f (omega arith)) here k d (omega arith)

-- where every word is allowed, tasks within these bounds are tasks of a round
pub any_tasks : (rows : Split) (tasks : List Task) → IsGraph rows.graph → rows.graph.n ≤ 1000000 → All (λ (t : Task). IsVertex rows.graph.n t.vertex × (t.dist ≤ 1000000000)) tasks → All (IsTask (lawful 28 (λ v w. Unit {0})) (max_dist 28) rows) tasks
any_tasks rows tasks graph few h k d low =
    let t = get_or tasks k d in
    let x = h k d low in
    (x.0, (let y = x.1 in omega arith), λ j a lowj fits. (tt, (fits, let v = tail_inside rows t j a graph lowj in omega arith), tt))

pub no_tasks : (P : Task → Type 0) → All P []
no_tasks P k d low = absurd (omega arith)
