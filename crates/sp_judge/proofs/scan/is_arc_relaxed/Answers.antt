use Rattle.sp_word.specs.Word.{max_dist}
use Rattle.sp_paths.specs.Paths.{word_at}
use Rattle.sp_judge.proofs.Shows.{relaxed_unless}
use Rattle.sp_judge.proofs.scan.is_arc_relaxed.Goals as goal

pub returns-in-Within : goal.returns-in-Within
returns-in-Within g c =
    let (d, p, is, fits, pair) = c.in-Within.ensures in
    relaxed_unless (max_dist g.row.P) (word_at c.args.words.now) c.args.arc c.args.from c.look_up.result c.in-Within.word d p is fits pair c.look_up.ensures c.is_below.result c.is_below.ensures.order
