use Rattle.std.proofs.Common.{ℕ, [], ◌∷◌, subst}
use Rattle.std.specs.Prelude.{All}
use Rattle.sp_paths.specs.Paths.{IsVertex}
use Rattle.sp_lists.proofs.Rows.{all_behind}
use Rattle.sp_lists.proofs.routes.write_routes.Goals as goal

pub find_lists-requires-clause-targets : goal.find_lists-requires-clause-targets
find_lists-requires-clause-targets c =
    let V : ℕ → Type 0 = λ n. All (IsVertex n) c.args.asked.targets.now in
    subst V c.n.ensures (all_behind (IsVertex c.n.result) (c.args.asked.source ∷ []) c.args.asked.targets.now c.in_default.ensures.good.vertices)
