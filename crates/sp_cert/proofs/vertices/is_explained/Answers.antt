use Rattle.std.proofs.Common.{sym, ap, ◌∙◌}
use Rattle.sp_word.specs.Word.{dist_of}
use Rattle.sp_paths.specs.Paths.{word_at}
use Rattle.sp_cert.proofs.RowSteps.{row_rises, pair_of_dist, explained_by_row}
use Rattle.sp_cert.proofs.vertices.is_explained.Goals as goal

pub has_arc-requires : goal.has_arc-requires
has_arc-requires g c = rw c.row.ensures.row (row_rises c.args.graph.now.arcs c.args.pred c.requires.order)

pub returns-in-Some : goal.returns-in-Some
returns-in-Some g c =
    let words = word_at c.args.words.now in
    let from = pair_of_dist (words c.args.pred) c.in-Some.before (sym (ap dist_of c.look_up.ensures) ∙ (sym c.dist.ensures.dist ∙ c.in-Some.is)) in
    let row = explained_by_row c.args.graph.now words c.args.vertex c.args.dist c.args.pred c.in-Some.before from.0 from.1 c.if-before-dist.true in
    let found = rw c.row.ensures.row at c.has_arc.ensures in
    (λ t. row.1 (found.0 t), λ e. found.1 (row.0 e))
