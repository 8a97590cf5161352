use Rattle.std.proofs.Common.{ap, ◌∙◌}
use Rattle.spt_c.proofs.OneSource.{nothing_written}
use Rattle.spt_c.proofs.exports.spt_tree.Goals as goal

pub returns-clause-unchanged : goal.returns-clause-unchanged
returns-clause-unchanged c not =
    nothing_written _ _ _ _ _ _ c.solve-batch.result c.solve-batch.ensures (λ none. not (ap (λ a. a.status) c.of.ensures ∙ none))
