use Rattle.sp_word.specs.Word.{max_dist}
use Rattle.sp_paths.specs.Paths.{word_at}
use Rattle.sp_judge.proofs.Ranges.{takes_next}
use Rattle.sp_judge.proofs.marked.set_flags.Goals as goal

pub loop-mark-preserved : goal.loop-mark-preserved
loop-mark-preserved g c = takes_next (max_dist g.row.P) (word_at c.args.words.now) c.args.low c.args.marks.now c.loop-mark.mark-index _ c.args.flags.now c.loop-mark.flags c.set_flag.new.flags c.loop-mark-test.true c.loop-mark.invariant c.set_flag.ensures
