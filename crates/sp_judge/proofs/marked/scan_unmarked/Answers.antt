use Rattle.std.proofs.Common.{subst}
use Rattle.sp_word.specs.Word.{max_dist}
use Rattle.sp_paths.specs.Paths.{word_at}
use Rattle.sp_judge.specs.Shown.{Shows}
use Rattle.sp_judge.specs.Marked.{ShowsBetween}
use Rattle.sp_judge.proofs.Ranges.{between_all}
use Rattle.sp_judge.proofs.marked.scan_unmarked.Goals as goal

pub returns-in-Ok : goal.returns-in-Ok
returns-in-Ok g c = between_all (max_dist g.row.P) (word_at c.args.words.now) c.args.graph.now c.in-Ok.told c.n.ensures.graph (subst (λ high. ShowsBetween (max_dist g.row.P) c.args.graph.now (word_at c.args.words.now) 0 high c.in-Ok.told) c.n.ensures.n c.in-Ok.ensures)

pub returns : goal.returns
returns g c = subst (λ arcs. Shows (max_dist g.row.P) (word_at c.args.words.now) arcs c.scan_arcs.result) c.arcs.ensures.arcs c.scan_arcs.ensures
