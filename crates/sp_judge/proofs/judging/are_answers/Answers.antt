use Rattle.std.proofs.Common.{None}
use Rattle.std.proofs.lemmas.Bool.{OnTrue_from}
use Rattle.sp_word.specs.Word.{max_dist}
use Rattle.sp_answer.specs.Run.{AreRunWords}
use Rattle.sp_judge.proofs.Asked.{closed_by, near_shown}
use Rattle.sp_judge.proofs.judging.are_answers.Goals as goal

pub returns-in-Some : goal.returns-in-Some
returns-in-Some g c =
    let graph = c.args.graph.now in
    let sources = c.args.run.sources.now in
    let until = c.args.run.until in
    let words = c.args.words.now in
    let far = c.in-Some.far in
    OnTrue_from c.are_relaxed_up_to.result (AreRunWords g.row.P graph sources until words None)
    (λ e. near_shown g.row.P graph c.n.ensures.graph sources c.requires.words.vertices words c.requires.words.table until c.requires.words.asked far (rw c.in-Some.is at c.bearing.ensures)
    (closed_by graph (max_dist g.row.P) far words c.args.reached.now c.requires.words.table.size c.requires.reached (c.are_relaxed_up_to.ensures.0 e)))
