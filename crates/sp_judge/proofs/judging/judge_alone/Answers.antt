use Rattle.std.proofs.Common.{subst}
use Rattle.sp_word.specs.Word.{max_dist}
use Rattle.sp_paths.specs.Paths.{word_at}
use Rattle.sp_judge.specs.Shown.{Shows}
use Rattle.sp_judge.proofs.Asked.{all_shown}
use Rattle.sp_judge.proofs.judging.judge_alone.Goals as goal

pub returns-in-None : goal.returns-in-None
returns-in-None g c =
    all_shown g.row.P c.args.graph.now c.n.ensures.graph c.args.run.sources.now c.requires.vertices c.args.words.now c.requires.table c.args.run.until c.requires.asked
    c.in-None.ensures.all c.scan_part.result (subst (λ arcs. Shows (max_dist g.row.P) (word_at c.args.words.now) arcs c.scan_part.result) c.arcs.ensures.arcs c.scan_part.ensures)
