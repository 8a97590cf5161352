use Rattle.std.proofs.Common.{subst, refl, sym, ◌∙◌}
use Rattle.sp_word.specs.Word.{max_dist}
use Rattle.sp_paths.specs.Paths.{word_at}
use Rattle.sp_judge.specs.Shown.{Shows}
use Rattle.sp_judge.proofs.Ranges.{unreached_whole}
use Rattle.sp_judge.proofs.marked.scan_row.Goals as goal

pub returns-then-marked : goal.returns-then-marked
returns-then-marked g c = c.requires.marked c.if-marked.true

pub returns-then-is_unreached : goal.returns-then-is_unreached
returns-then-is_unreached g c = unreached_whole (max_dist g.row.P) (word_at c.args.words.now) c.args.graph.now c.args.vertex (sym c.look_up.ensures ∙ c.if-is_unreached.ensures.0 refl)

pub returns : goal.returns
returns g c = subst (λ row. Shows (max_dist g.row.P) (word_at c.args.words.now) row c.scan_part.result) c.row.ensures.row c.scan_part.ensures
