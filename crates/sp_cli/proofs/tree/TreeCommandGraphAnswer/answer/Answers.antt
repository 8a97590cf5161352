use Rattle.sp_cli.specs.Told.{scene_by, wrote_in}
use Rattle.sp_jobs.specs.Batch.{IsBatch}
use Rattle.sp_cli.proofs.Near.{trees_near}
use Rattle.sp_cli.proofs.Jobs.{of_sources}
use Rattle.sp_cli.proofs.tree.TreeCommandGraphAnswer.answer.Goals as goal

pub returns-then-get-eq1-clause-answered : goal.returns-then-get-eq1-clause-answered
returns-then-get-eq1-clause-answered g c =
    let ran = c.run_batch_told in
    let s = scene_by (g.F.Inputs.files c.args.place.now.files.now) g.W.Write c.args.out.now ran.new.out in
    of_sources {s = s} c.args.place.now.direction g.row.P (IsBatch g.row.P) ran.new.gr ran.result c.requires.limit.0 c.in_ok-gr.ensures.opened c.in_ok-sources.ensures.opened
    (λ graph numbers summary is. trees_near g.row.P c.args.place.now.limit (wrote_in s) graph numbers summary is) (λ graph numbers is. is.1) (rw c.settings-settings.ensures at ran.ensures.exact) (rw c.settings-settings.ensures at ran.ensures.found) ran.ensures.may_fail

pub returns-clause-answered : goal.returns-clause-answered
returns-clause-answered g c =
    let ran = c.run_batch_told-2 in
    let s = scene_by (g.F.Inputs.files c.args.place.now.files.now) g.W.Write c.args.out.now ran.new.out in
    of_sources {s = s} c.args.place.now.direction g.row.P (IsBatch g.row.P) ran.new.gr ran.result c.requires.limit.0 c.in_ok-gr.ensures.opened c.in_ok-sources.ensures.opened
    (λ graph numbers summary is. trees_near g.row.P c.args.place.now.limit (wrote_in s) graph numbers summary is) (λ graph numbers is. is.1) (rw c.settings-settings.ensures at ran.ensures.exact) (rw c.settings-settings.ensures at ran.ensures.found) ran.ensures.may_fail
