use Rattle.sp_cli.specs.Told.{scene_by}
use Rattle.sp_cli.proofs.Jobs.{of_lists}
use Rattle.sp_cli.proofs.matrix.MatrixCommandGraphAnswer.answer.Goals as goal

pub returns-then-get-eq1-clause-answered : goal.returns-then-get-eq1-clause-answered
returns-then-get-eq1-clause-answered g c =
    let ran = c.run_matrix_told in
    let s = scene_by (g.F.Inputs.files c.args.place.now.files.now) g.W.Write c.args.out.now ran.new.out in
    of_lists {s = s} c.args.place.now.direction g.row.P ran.new.gr ran.result c.in_ok-gr.ensures.opened c.in_ok-sources.ensures.opened c.in_ok-targets.ensures.opened (rw c.settings-settings.ensures at ran.ensures.exact) (rw c.settings-settings.ensures at ran.ensures.found) ran.ensures.may_fail

pub returns-clause-answered : goal.returns-clause-answered
returns-clause-answered g c =
    let ran = c.run_matrix_told-2 in
    let s = scene_by (g.F.Inputs.files c.args.place.now.files.now) g.W.Write c.args.out.now ran.new.out in
    of_lists {s = s} c.args.place.now.direction g.row.P ran.new.gr ran.result c.in_ok-gr.ensures.opened c.in_ok-sources.ensures.opened c.in_ok-targets.ensures.opened (rw c.settings-settings.ensures at ran.ensures.exact) (rw c.settings-settings.ensures at ran.ensures.found) ran.ensures.may_fail
