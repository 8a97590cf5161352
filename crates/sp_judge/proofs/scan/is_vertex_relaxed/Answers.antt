use Rattle.std.proofs.Common.{sym}
use Rattle.sp_word.specs.Word.{max_dist}
use Rattle.sp_paths.specs.Paths.{word_at}
use Rattle.sp_judge.proofs.Shows.{row_closed}
use Rattle.sp_judge.proofs.scan.is_vertex_relaxed.Goals as goal

pub returns-in-Some : goal.returns-in-Some
returns-in-Some g c =
    row_closed c.args.graph.now (max_dist g.row.P) c.args.far (word_at c.args.words.now) c.args.vertex c.look_up-from.result c.row.result.now c.in-Some.dist c.is_row_relaxed.result c.look_up-from.ensures c.row.ensures.row (sym c.in-Some.ensures.dist) c.if-dist-far.true c.is_row_relaxed.ensures
