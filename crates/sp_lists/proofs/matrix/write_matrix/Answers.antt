use Rattle.std.proofs.Common.{ℕ, subst}
use Rattle.std.specs.Prelude.{All}
use Rattle.sp_paths.specs.Paths.{IsVertex}
use Rattle.sp_lists.proofs.Rows.{all_behind}
use Rattle.sp_lists.proofs.matrix.write_matrix.Goals as goal

pub rows_in-requires-clause-targets : goal.rows_in-requires-clause-targets
rows_in-requires-clause-targets c =
    let V : ℕ → Type 0 = λ n. All (IsVertex n) c.args.targets.now in
    subst V c.n.ensures (all_behind (IsVertex c.n.result) c.args.sources.now c.args.targets.now c.in_default.ensures.good.vertices)
