use Rattle.std.proofs.Common.{ap, rules}
use Rattle.std.proofs.lemmas.Result.{err_from_is_err_and}
use Rattle.sp_cli.specs.Told.{scene_by}
use Rattle.sp_cli.specs.Commands.{faults_in}
use Rattle.sp_cli.proofs.Told.{job_answers, job_borne_out, job_is_shut, shut_borne_out}
use Rattle.sp_cli.proofs.graph_command.GraphCommandRunnable.run.Goals as goal

pub returns-in_err-answer-clause-answered : goal.returns-in_err-answer-clause-answered
returns-in_err-answer-clause-answered g c =
    let residual = c.from_residual-in_err-answer in
    let p = err_from_is_err_and residual.result residual.ensures.1 in
    let s = scene_by (g.F.Inputs.files c.args.files.now) g.W.Write c.args.out.now c.answer.new.out in
    rw (p.1, p.2) (job_is_shut g.row.P g.C.GraphAnswer.within g.C.GraphAnswer.placeless g.C.GraphAnswer.answers c.args.self.now s c.in_ok-settings.ensures.exactly c.in_ok-limit.ensures.exactly (c.lacks_places.ensures.none (search rules))
    _ _ (ap g.W.Write.written c.in_err-answer.ensures.untouched) c.in_err-answer.ensures.answered)

pub returns-in_err-answer-clause-borne_out : goal.returns-in_err-answer-clause-borne_out
returns-in_err-answer-clause-borne_out g c =
    let residual = c.from_residual-in_err-answer in
    let p = err_from_is_err_and residual.result residual.ensures.1 in
    let s = scene_by (g.F.Inputs.files c.args.files.now) g.W.Write c.args.out.now c.answer.new.out in
    rw (p.1, p.2) (shut_borne_out _ (faults_in g.row.P g.C.GraphAnswer.within g.C.GraphAnswer.placeless c.args.self.now) s _ c.in_err-answer.ensures.answered)

pub returns-clause-answered : goal.returns-clause-answered
returns-clause-answered g c =
    let s = scene_by (g.F.Inputs.files c.args.files.now) g.W.Write c.args.out.now c.answer.new.out in
    rw c.end_of-end.ensures (job_answers g.row.P g.C.GraphAnswer.within g.C.GraphAnswer.placeless g.C.GraphAnswer.answers c.args.self.now s c.in_ok-settings.ensures.exactly c.in_ok-limit.ensures.exactly (c.lacks_places.ensures.none (search rules))
    _ c.in_ok-answer.answer c.in_ok-answer.ensures.answered)

pub returns-clause-borne_out : goal.returns-clause-borne_out
returns-clause-borne_out g c =
    let given = c.args.self.now in
    let s = scene_by (g.F.Inputs.files c.args.files.now) g.W.Write c.args.out.now c.answer.new.out in
    rw c.end_of-end.ensures (job_borne_out g.row.P g.C.GraphAnswer.within g.C.GraphAnswer.placeless given given.options.far_ok _ s c.in_ok-answer.answer c.in_ok-answer.ensures.answered.borne_out)
