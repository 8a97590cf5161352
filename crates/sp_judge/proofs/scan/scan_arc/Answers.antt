use Rattle.std.proofs.Common.{refl}
use Rattle.sp_word.specs.Word.{max_dist}
use Rattle.sp_paths.specs.Paths.{word_at}
use Rattle.sp_judge.proofs.Shows.{shows_open}
use Rattle.sp_judge.proofs.scan.scan_arc.Goals as goal

pub returns-in-Within : goal.returns-in-Within
returns-in-Within g c =
    let (d, p, is, fits, pair) = c.in-Within.ensures in
    shows_open (max_dist g.row.P) (word_at c.args.words.now) c.args.arc c.look_up.result c.look_up-in-Within-1.result c.in-Within.word d p is fits pair c.look_up-in-Within-1.ensures c.look_up.ensures (c.if-is_below.ensures.order.0 refl)
