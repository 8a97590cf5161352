use Rattle.sp_judge.proofs.Asked.{all_shown}
use Rattle.sp_judge.proofs.judging.judge_by.Goals as goal

pub returns-in-None : goal.returns-in-None
returns-in-None g c =
    all_shown g.row.P c.args.graph.now c.n.ensures.graph c.args.run.sources.now c.requires.words.vertices c.args.copy.words.now c.requires.words.table c.args.run.until c.requires.words.asked
    c.in-None.ensures.all c.scan_unmarked.result c.scan_unmarked.ensures
