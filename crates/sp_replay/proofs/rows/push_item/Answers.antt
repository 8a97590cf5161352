use Rattle.sp_replay.proofs.RowSteps.{pushed_at}
use Rattle.sp_replay.proofs.rows.push_item.Goals as goal

pub returns : goal.returns
returns g c = λ other some.
    pushed_at (λ row. row.items) c.grow.new.rows.items c.in-Some.place c.index_mut.result.now c.push.new.self c.args.item c.args.actor other _
    c.in_ok-grow.ensures.long c.index_mut.ensures.value c.in_ok-push.ensures.items c.in-Some.ensures.0 c.in-Some.ensures.1 some (c.in_ok-grow.ensures.same other)
