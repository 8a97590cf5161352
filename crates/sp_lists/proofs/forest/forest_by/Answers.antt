use Rattle.std.proofs.Common.{ℕ, subst}
use Rattle.sp_answer.specs.declared.answer.RunError.{RunError}
use Rattle.sp_answer.specs.Nearest.{IsRefusal}
use Rattle.sp_lists.specs.declared.outcomes.Outcome.TheVariants.{TooFar}
use Rattle.sp_lists.specs.ForestQuestion.{lists, IsForestIn}
use Rattle.sp_lists.proofs.Forests.{far_told}
use Rattle.sp_lists.proofs.forest.forest_by.Goals as goal

pub returns-in-Err-TooFar : goal.returns-in-Err-TooFar
returns-in-Err-TooFar g c =
    let graph = c.args.at.graph.now in
    let there = lists c.args.dist.now c.args.pred.now c.args.root.now in
    let R : RunError → Type 0 = λ e. IsRefusal g.row.P graph c.args.near.sources.now c.args.near.limit e in
    let refused = subst R c.in-Err-TooFar.field-0-is c.in-Err-TooFar.ensures.refused in
    let F : ℕ → Type 0 = λ P. IsForestIn P graph c.args.near.sources.now c.args.near.limit there there (TooFar c.in-Err-TooFar.vertex) in
    subst F c.requires.bits (far_told g.row.P graph c.args.near.sources.now c.args.near.limit c.in-Err-TooFar.vertex there refused)
