use Rattle.std.proofs.Common.{arith}
use Rattle.sp_word.specs.Word.{max_dist}
use Rattle.sp_paths.specs.Paths.{word_at}
use Rattle.sp_judge.proofs.Shows.{shows_more, shows_all}
use Rattle.sp_judge.proofs.scan.scan_part.Goals as goal

pub loop-arc-preserved : goal.loop-arc-preserved
loop-arc-preserved g c = shows_more (max_dist g.row.P) (word_at c.args.words.now) c.args.arcs.now c.loop-arc.arc-index _ c.loop-arc.told c.scan_arc.result c.both-told.result c.loop-arc-test.true c.loop-arc.invariant c.scan_arc.ensures c.both-told.ensures

pub returns : goal.returns
returns g c = shows_all (max_dist g.row.P) (word_at c.args.words.now) c.args.arcs.now c.loop-arc.arc-index c.loop-arc.told (omega arith) c.loop-arc.invariant
