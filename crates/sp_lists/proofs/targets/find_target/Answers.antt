use Rattle.std.proofs.Common.{sym, subst}
use Rattle.sp_answer.specs.declared.pair.PairAnswer.{PairAnswer}
use Rattle.sp_answer.specs.Run.{IsAnswerFor}
use Rattle.sp_lists.specs.Limits.{reach}
use Rattle.sp_lists.proofs.Rows.{one_answer}
use Rattle.sp_lists.proofs.targets.find_target.Goals as goal

pub returns-in-Ok : goal.returns-in-Ok
returns-in-Ok c =
    let gr = c.args.prepared.graph.now in
    let A : PairAnswer → Type 0 = IsAnswerFor gr c.args.source c.args.target (reach gr.n) in
    let answer = one_answer (reach gr.n) gr c.args.source c.args.target c.in-Ok.answers.items c.index.result.now c.in-Ok.ensures in
    c.of_answer.ensures gr c.args.source c.args.target (reach gr.n) (subst A (sym c.index.ensures) answer)
