use Rattle.sp_word.specs.Word.{max_dist}
use Rattle.sp_paths.specs.Paths.{word_at}
use Rattle.sp_judge.proofs.Ranges.{between_both}
use Rattle.sp_judge.proofs.marked.+fn-scan_share_by-join+arg3+scan_share_by.Goals as goal

pub returns : goal.returns
returns g t c =
    let first = rw (c.in_ok-first.was, c.part.ensures.low, c.part.ensures.middle) at c.join-first.ensures.first in
    let second = rw (c.in_ok-second.was, c.part.ensures.high) at c.join-first.ensures.second in
    between_both (max_dist g.row.P) (word_at c.args.words.now) c.args.graph.now c.args.share.low c.part.result.1.low c.args.share.high c.in_ok-first.field-0 c.in_ok-second.field-0 c.both.result c.part.ensures.above c.part.ensures.below first second c.both.ensures
