use Rattle.std.proofs.Common.{arith, refl, sym, ap, ◌∙◌}
use Rattle.sp_word.specs.Word.{max_dist, dist_of}
use Rattle.sp_paths.specs.Paths.{word_at}
use Rattle.sp_judge.proofs.Ranges.{takes_mark}
use Rattle.sp_judge.proofs.marked.set_flag.Goals as goal

pub returns-then-has_dist : goal.returns-then-has_dist
returns-then-has_dist g c = takes_mark (max_dist g.row.P) (word_at c.args.words.now) c.args.low c.args.mark _ c.args.flags.now (omega arith) (sym (ap dist_of c.look_up.ensures) ∙ c.if-has_dist.ensures.0 refl)
