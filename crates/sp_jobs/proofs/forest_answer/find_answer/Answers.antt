use Rattle.std.proofs.Common.{◌≡◌, Err, rules}
use Rattle.sp_answer.specs.declared.answer.RunError.TheVariants as run
use Rattle.sp_answer.specs.ForestTable.{IsForestTable}
use Rattle.sp_answer.specs.Nearest.{IsForestAnswer}
use Rattle.sp_jobs.proofs.CountedSources.{sources_counted}
use Rattle.sp_jobs.proofs.SameNearest.{far_answer}
use Rattle.sp_jobs.proofs.forest_answer.find_answer.Goals as goal

pub returns-in-Err-TooFar : goal.returns-in-Err-TooFar
returns-in-Err-TooFar g c =
    let is : c.forest_near.result ≡ Err (run.TooFar c.in-Err-TooFar.vertex) = search rules in
    far_answer g.row.P c.args.job.now.graph.now c.args.asked.sources.now c.args.asked.limit c.in-Err-TooFar.vertex c.forest_near.result is c.forest_near.ensures.refused

pub returns-in-Ok : goal.returns-in-Ok
returns-in-Ok g c =
    let table : IsForestTable g.row.P c.in-Ok.forest = search rules in
    let answer : IsForestAnswer g.row.P c.args.job.now.graph.now c.args.asked.sources.now c.args.asked.limit c.in-Ok.forest = search rules in
    (table, answer, sources_counted g.row.P c.args.job.now.graph.now c.args.asked.sources.now c.args.asked.limit c.in-Ok.forest table answer)
