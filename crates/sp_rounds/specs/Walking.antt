-- What the law of walks allows a task.
use Rattle.std.specs.Prelude.{ℕ, ◌≤◌}
use Rattle.sp_word.specs.Word.{max_dist, max_pred}
use Rattle.sp_paths.specs.Paths.{IsGraph, HasWalk, IsLawful}
use Rattle.sp_graph.specs.RowsValue.{Split}
use Rattle.sp_offer.specs.Order.{lawful}
use Rattle.sp_rounds.specs.declared.task.Task.{Task}
use Rattle.sp_rounds.specs.Offers.{IsAllowed}

-- A task whose distance is the length of a walk to its vertex makes only lawful offers.
abbrev pub WalksAllowArcs : Type 0
WalksAllowArcs = (P s : ℕ) (rows : Split) (t : Task) → IsGraph rows.graph → rows.graph.n ≤ max_pred P
    → HasWalk rows.graph s t.vertex t.dist → IsAllowed (lawful P (IsLawful rows.graph s)) (max_dist P) rows t
