use Rattle.std.proofs.Common.{arith}
use Rattle.sp_word.specs.Word.{max_dist}
use Rattle.sp_paths.specs.Paths.{word_at}
use Rattle.sp_judge.proofs.OpenTails.{tails_more, tails_all}
use Rattle.sp_judge.proofs.scan.open_tails.Goals as goal

pub loop-arc-preserved : goal.loop-arc-preserved
loop-arc-preserved g c = tails_more (max_dist g.row.P) (word_at c.args.words.now) c.args.arcs.now c.loop-arc.arc-index _ c.loop-arc.tails.items c.push_tail.new.tails.items c.loop-arc-test.true c.loop-arc.invariant c.in_ok-push_tail.ensures

pub returns : goal.returns
returns g c = tails_all (max_dist g.row.P) (word_at c.args.words.now) c.args.arcs.now c.loop-arc.arc-index c.loop-arc.tails.items (omega arith) c.loop-arc.invariant
