use Rattle.std.proofs.Common.{rules, arith}
use Rattle.sp_word.specs.Word.{max_dist}
use Rattle.sp_paths.specs.Paths.{word_at}
use Rattle.sp_judge.proofs.Ranges.{between_next}
use Rattle.sp_judge.proofs.marked.scan_rows.Goals as goal

pub loop-place-preserved : goal.loop-place-preserved
loop-place-preserved g c = between_next (max_dist g.row.P) (word_at c.args.words.now) c.args.graph.now c.args.low c.loop-place.place c.loop-place.told c.scan_row.result c.both-told.result c.loop-place.invariant c.scan_row.ensures c.both-told.ensures

pub scan_row-requires : goal.scan_row-requires
scan_row-requires g c = (search rules, (c.requires.layout, (c.requires.most, (c.requires.size, ((omega arith, omega (arith, c.requires.range, c.loop-place-test.true)), c.requires.flags c.loop-place.place)))))
