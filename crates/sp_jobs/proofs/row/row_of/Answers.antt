use Rattle.std.proofs.Common.{◌<◌, length, arith}
use Rattle.sp_word.specs.Word.{max_dist}
use Rattle.sp_answer.specs.Run.{IsAnswerFor}
use Rattle.sp_answer.proofs.TargetAnswers.{answer_at}
use Rattle.sp_jobs.proofs.Lines.{lines_more}
use Rattle.sp_jobs.proofs.row.row_of.Goals as goal

pub loop-place-preserved : goal.loop-place-preserved
loop-place-preserved g c =
    let graph = c.args.graph.now in
    let s = c.args.source in
    let targets = c.args.targets.now in
    let answers = c.args.answers.now in
    let k = c.loop-place.place in
    let less : k < length targets = omega (arith, c.loop-place-test.true) in
    let low : k < length answers = omega (arith, less, c.requires.size) in
    rw c.in_ok-push.ensures.items (lines_more g.row.P graph s targets k c.loop-place.lines.items _ less c.loop-place.invariant (answer_at (λ t told. IsAnswerFor graph s t (max_dist g.row.P) told) targets answers k _ low c.requires.answers))
