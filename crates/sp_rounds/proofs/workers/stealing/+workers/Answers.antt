use Rattle.std.proofs.Common.{arith}
use Rattle.sp_rounds.proofs.Both.{after_split}
use Rattle.sp_rounds.proofs.workers.stealing.+workers.Goals as goal

pub returns : goal.returns
returns g t c =
    let two = c.split_start-first.ensures in
    after_split _ _ _ c.args.start.caller _ _ c.args.start.claimer _ _ _ _ _ _ _ _ two.first.0 two.first.1 two.caller.1 two.claimer.1
    (let n = c.in-Some.ensures.len in omega arith)
    c.join-later.ensures.second
    c.join-later.ensures.first
    c.merge.ensures
