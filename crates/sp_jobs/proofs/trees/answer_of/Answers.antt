use Rattle.std.proofs.Common.{None, rules}
use Rattle.std.proofs.lemmas.Result.{IfOk-weaker}
use Rattle.sp_jobs.specs.Told.{IsDue}
use Rattle.sp_jobs.specs.Batch.{TreeOf, IsTreeAnswer}
use Rattle.sp_jobs.specs.Trees.{IsTreeTold, told_by}
use Rattle.sp_jobs.proofs.AnswersInOrder.{found_due, told_due}
use Rattle.sp_jobs.proofs.trees.answer_of.Goals as goal

pub returns-in-None : goal.returns-in-None
returns-in-None g c =
    let graph = c.args.question.now.job.graph.now in
    let source = c.args.source in
    rw c.in-None.is (IfOk-weaker c.find_tree.result (λ found. IsTreeTold g.row.P None graph source (told_by found)) (λ found. IsDue (λ s told. IsTreeTold g.row.P None graph s told) source (told_by found))
    (λ found is. told_due g.row.P None graph source (told_by found) is) c.find_tree.ensures)

pub returns : goal.returns
returns g c =
    let part = c.in_ok-part-in-Some.part in
    let is : IsTreeAnswer g.row.P c.args.question.now.limit c.args.question.now.job.graph.now c.args.source (TreeOf part) = search rules in
    found_due g.row.P c.args.question.now.limit c.args.question.now.job.graph.now c.args.source (TreeOf part) is
