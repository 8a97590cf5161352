use Rattle.sp_judge.proofs.Asked.{near_shown}
use Rattle.sp_judge.proofs.judging.judge_near.Goals as goal

pub returns-in-Some-clause-near : goal.returns-in-Some-clause-near
returns-in-Some-clause-near g c =
    near_shown g.row.P c.args.graph.now c.n.ensures.graph c.args.run.sources.now c.requires.vertices c.args.words.now c.requires.table c.args.run.until c.requires.asked
    c.in-Some.far (rw c.in-Some.is at c.bearing.ensures) (c.is_relaxed_up_to.ensures.0 c.if-is_relaxed_up_to.true)
