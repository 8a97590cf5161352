use Rattle.sp_jobs.proofs.ToldInOrder.{found_more}
use Rattle.sp_jobs.proofs.finding.find_in_turn.Goals as goal

pub loop-source-preserved : goal.loop-source-preserved
loop-source-preserved g c =
    rw c.in_ok-push.ensures.items (found_more g.Q.Question.told (g.Q.Question.answers c.args.question.now) c.args.sources.now c.loop-source.source-index c.loop-source.group.items c.ready.result c.loop-source-test.true c.loop-source.invariant
    (rw c.ready.ensures c.in_ok-found.ensures))
