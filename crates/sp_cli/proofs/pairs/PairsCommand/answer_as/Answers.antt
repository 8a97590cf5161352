use Rattle.sp_cli.proofs.PairJob.{of_pairs}
use Rattle.sp_cli.proofs.pairs.PairsCommand.answer_as.Goals as goal

pub returns-then-get-eq1-clause-answered : goal.returns-then-get-eq1-clause-answered
returns-then-get-eq1-clause-answered g c =
    let ran = c.run_pairs_told in
    of_pairs {files = g.F.Inputs.files c.args.place.now.files.now} c.args.self.now g.W.Write g.row.P c.args.out.now ran.new.out ran.new.gr ran.new.pairs ran.result c.in_ok-gr.ensures.opened c.in_ok-pairs.ensures.opened
    (rw c.settings-settings.ensures at ran.ensures.exact) (rw c.settings-settings.ensures at ran.ensures.found) ran.ensures.may_fail

pub returns-clause-answered : goal.returns-clause-answered
returns-clause-answered g c =
    let ran = c.run_pairs_told-2 in
    of_pairs {files = g.F.Inputs.files c.args.place.now.files.now} c.args.self.now g.W.Write g.row.P c.args.out.now ran.new.out ran.new.gr ran.new.pairs ran.result c.in_ok-gr.ensures.opened c.in_ok-pairs.ensures.opened
    (rw c.settings-settings.ensures at ran.ensures.exact) (rw c.settings-settings.ensures at ran.ensures.found) ran.ensures.may_fail
