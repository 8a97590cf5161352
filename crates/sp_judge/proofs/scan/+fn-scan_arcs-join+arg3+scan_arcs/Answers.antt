use Rattle.sp_word.specs.Word.{max_dist}
use Rattle.sp_paths.specs.Paths.{word_at}
use Rattle.sp_judge.proofs.Shows.{shows_parts}
use Rattle.sp_judge.proofs.scan.+fn-scan_arcs-join+arg3+scan_arcs.Goals as goal

pub returns : goal.returns
returns g t c = shows_parts (max_dist g.row.P) (word_at c.args.words.now) c.args.arcs.now _ _ _ _ _ c.both.result c.split_at.ensures.front c.split_at.ensures.back c.join-first.ensures.first c.join-first.ensures.second c.both.ensures
