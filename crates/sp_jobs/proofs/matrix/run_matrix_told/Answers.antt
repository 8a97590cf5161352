use Rattle.std.proofs.Common.{refl}
use Rattle.sp_jobs.specs.Listing.{asked_in, numbers_of}
use Rattle.sp_jobs.specs.Matrix.{IsMatrixTo, IsMatrixToSome}
use Rattle.sp_jobs.proofs.Outcomes.{late, answered, of_some, done_for, may_fail, refused, refused_some, fault_may_fail}
use Rattle.sp_jobs.proofs.SameMatrix.{to_asked, to_some}
use Rattle.sp_jobs.proofs.matrix.run_matrix_told.Goals as goal

pub returns-in_err-file-clause-exact : goal.returns-in_err-file-clause-exact
returns-in_err-file-clause-exact g c = λ gr_text sources_text targets_text gr_is sources_are targets_are.
    refused (IsMatrixTo g.row.P (asked_in c.args.targets targets_text)) _ _ _ _ _ _ _ _ c.from_residual.result c.from_residual.ensures.1 (c.in_err-file.ensures.exact gr_text sources_text gr_is sources_are) refl

pub returns-in_err-file-clause-found : goal.returns-in_err-file-clause-found
returns-in_err-file-clause-found g c = refused_some (IsMatrixToSome g.row.P (asked_in c.args.targets)) _ _ _ _ _ _ _ c.from_residual.result c.from_residual.ensures.1 c.in_err-file.ensures.may_fail refl

pub returns-in_err-file-clause-may_fail : goal.returns-in_err-file-clause-may_fail
returns-in_err-file-clause-may_fail g c = fault_may_fail _ _ _ _ c.from_residual.result c.from_residual.ensures.1 c.in_err-file.ensures.may_fail

pub returns-in-Err-clause-exact : goal.returns-in-Err-clause-exact
returns-in-Err-clause-exact g c = λ gr_text sources_text targets_text gr_is sources_are targets_are.
    done_for (c.in_ok-file.ensures.exact gr_text sources_text gr_is sources_are) (c.in-Err.ensures.exact targets_text targets_are, refl)

pub returns-in-Err-clause-found : goal.returns-in-Err-clause-found
returns-in-Err-clause-found g c =
    let read = c.in_ok-file.ensures.found in
    (read.0, read.1, done_for read.2 refl)

pub returns-clause-exact : goal.returns-clause-exact
returns-clause-exact g c = λ gr_text sources_text targets_text gr_is sources_are targets_are.
    let done = rw (c.numbers-sources.ensures.numbers, c.numbers-targets.ensures.numbers) at c.answer_matrix.ensures.matrix in
    answered (IsMatrixTo g.row.P (asked_in c.args.targets targets_text)) _ _ c.answer_matrix.result (late _ _ _ _ _ c.answer_matrix.result done)
    (done_for (c.in_ok-file.ensures.exact gr_text sources_text gr_is sources_are) (to_asked g.row.P (numbers_of c.in-Ok.ends) _ _ _ _ c.answer_matrix.result done (c.in-Ok.ensures.exact targets_text targets_are)))

pub returns-clause-found : goal.returns-clause-found
returns-clause-found g c =
    let read = c.in_ok-file.ensures.found in
    let done = rw (c.numbers-sources.ensures.numbers, c.numbers-targets.ensures.numbers) at c.answer_matrix.ensures.matrix in
    of_some (IsMatrixToSome g.row.P (asked_in c.args.targets)) _ read.0 read.1 c.answer_matrix.result (late _ _ _ _ _ c.answer_matrix.result done) (done_for read.2 (to_some g.row.P (numbers_of c.in-Ok.ends) _ _ _ _ c.in-Ok.ensures.found.0 c.answer_matrix.result done c.in-Ok.ensures.found.1))

pub returns-clause-may_fail : goal.returns-clause-may_fail
returns-clause-may_fail g c = may_fail _ _ _ c.answer_matrix.result (late _ _ _ _ _ c.answer_matrix.result c.answer_matrix.ensures.matrix)
