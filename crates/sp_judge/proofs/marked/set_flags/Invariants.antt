use Rattle.sp_word.specs.Word.{max_dist}
use Rattle.sp_paths.specs.Paths.{word_at}
use Rattle.sp_judge.specs.Marked.{TakesMarks}
use Rattle.sp_judge.proofs.marked.set_flags.Given as goal

abbrev pub invariant-loop-mark : goal.invariant-loop-mark
invariant-loop-mark g l = TakesMarks (max_dist g.row.P) (word_at l.words) l.low l.marks l.initial.flags l.flags
