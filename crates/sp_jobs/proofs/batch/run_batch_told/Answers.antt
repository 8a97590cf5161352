use Rattle.std.proofs.Common.{refl}
use Rattle.sp_jobs.specs.Batch.{IsBatch}
use Rattle.sp_jobs.proofs.Outcomes.{late, answered, of_some, done_for, may_fail, refused, refused_some, fault_may_fail}
use Rattle.sp_jobs.proofs.batch.run_batch_told.Goals as goal

pub returns-in_err-file-clause-exact : goal.returns-in_err-file-clause-exact
returns-in_err-file-clause-exact g c = λ gr_text ss_text gr_is ss_is.
    refused (IsBatch g.row.P c.args.limit) _ _ _ _ _ _ _ _ c.from_residual.result c.from_residual.ensures.1 (c.in_err-file.ensures.exact gr_text ss_text gr_is ss_is) refl

pub returns-in_err-file-clause-found : goal.returns-in_err-file-clause-found
returns-in_err-file-clause-found g c = refused_some (IsBatch g.row.P c.args.limit) _ _ _ _ _ _ _ c.from_residual.result c.from_residual.ensures.1 c.in_err-file.ensures.may_fail refl

pub returns-in_err-file-clause-may_fail : goal.returns-in_err-file-clause-may_fail
returns-in_err-file-clause-may_fail g c = fault_may_fail _ _ _ _ c.from_residual.result c.from_residual.ensures.1 c.in_err-file.ensures.may_fail

pub returns-clause-exact : goal.returns-clause-exact
returns-clause-exact g c = λ gr_text ss_text gr_is ss_is.
    let done = rw c.numbers-sources.ensures.numbers at c.answer_batch.ensures.batch in
    answered (IsBatch g.row.P c.args.limit) _ _ c.answer_batch.result (late _ _ _ _ _ c.answer_batch.result done) (done_for (c.in_ok-file.ensures.exact gr_text ss_text gr_is ss_is) done)

pub returns-clause-found : goal.returns-clause-found
returns-clause-found g c =
    let done = rw c.numbers-sources.ensures.numbers at c.answer_batch.ensures.batch in
    let read = c.in_ok-file.ensures.found in
    of_some (IsBatch g.row.P c.args.limit) _ read.0 read.1 c.answer_batch.result (late _ _ _ _ _ c.answer_batch.result done) (done_for read.2 done)

pub returns-clause-may_fail : goal.returns-clause-may_fail
returns-clause-may_fail g c = may_fail _ _ _ c.answer_batch.result (late _ _ _ _ _ c.answer_batch.result c.answer_batch.ensures.batch)
