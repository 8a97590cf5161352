use Rattle.std.proofs.lemmas.Result.{IfOk-weaker}
use Rattle.sp_jobs.specs.Told.{IsDue}
use Rattle.sp_jobs.specs.Row.{told_of_row, IsRow, IsRowTold}
use Rattle.sp_jobs.proofs.Lines.{row_due}
use Rattle.sp_jobs.proofs.row.find_row.Goals as goal

pub returns : goal.returns
returns g c =
    let graph = c.args.question.now.job.graph.now in
    let targets = c.args.question.now.targets.now in
    let source = c.args.source in
    IfOk-weaker c.row_of.result (IsRow g.row.P graph source targets) (λ row. IsDue (IsRowTold g.row.P graph targets) source (told_of_row row))
    (λ row is. row_due g.row.P graph source targets row c.requires.few is) c.row_of.ensures
