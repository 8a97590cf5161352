use Rattle.std.proofs.Common.{take, ◌+◌, sym, subst, arith}
use Rattle.sp_answer.specs.Run.{AreAnswersBy}
use Rattle.sp_answer.proofs.TargetAnswers.{answers_more, answers_all}
use Rattle.sp_answer.proofs.TargetRoutes.{one_of_targets}
use Rattle.sp_answer.proofs.run_words.RunWords.answers.Goals as goal

pub of_target-requires : goal.of_target-requires
of_target-requires g c =
    let run = c.args.self.now in
    let targets = c.args.targets.now in
    (omega arith, (c.requires.source, one_of_targets g.row.P c.args.graph.now c.args.source targets run.words.items run.far c.requires.words c.loop-target.target-index 0 c.loop-target-test.true))

pub loop-target-preserved : goal.loop-target-preserved
loop-target-preserved g c =
    let Is = g.A.TargetAnswer.is_answer c.args.graph.now c.args.source in
    let targets = c.args.targets.now in
    let i = c.loop-target.target-index in
    subst (λ answers. AreAnswersBy Is (take (i + 1) targets) answers) (sym c.in_ok-push.ensures.items)
    (answers_more Is targets i c.loop-target.answers.items _ c.loop-target-test.true c.loop-target.invariant c.in_ok-of_target.ensures)

pub returns : goal.returns
returns g c =
    let Is = g.A.TargetAnswer.is_answer c.args.graph.now c.args.source in
    answers_all Is c.args.targets.now c.loop-target.target-index c.loop-target.answers.items c.loop-target-test.false c.loop-target.invariant
