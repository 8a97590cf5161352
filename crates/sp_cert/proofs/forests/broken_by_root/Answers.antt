use Rattle.std.proofs.Common.{ap, ◌∙◌}
use Rattle.sp_word.specs.Word.{Pair}
use Rattle.sp_cert.proofs.ForestRows.{pair_of_pred, other_option, source_broken, root_broken}
use Rattle.sp_cert.proofs.forests.broken_by_root.Goals as goal

pub returns-else-row : goal.returns-else-row
returns-else-row g c =
    let (d, is) = pair_of_pred c.args.row.now.1 c.pred.result c.in-Some.pred c.pred.ensures.pred c.in-Some.is in
    source_broken c.args.forest.now c.args.row.now c.requires d (is ∙ ap (λ x. Pair d x) c.if-pred-eq0.true) c.if-row.false

pub returns-else-eq : goal.returns-else-eq
returns-else-eq g c =
    let (d, is) = pair_of_pred c.args.row.now.1 c.pred.result c.in-Some.pred c.pred.ensures.pred c.in-Some.is in
    root_broken c.args.forest.now c.args.row.now c.requires d c.in-Some.pred is c.if-pred-eq0.false (λ e. other_option c.root.result c.args.row.now.2 c.eq.result c.eq.ensures c.if-eq.false (c.root.ensures ∙ e))
