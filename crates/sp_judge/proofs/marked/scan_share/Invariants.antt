use Rattle.std.proofs.Common.{◌≡◌, ◌+◌, length}
use Rattle.sp_word.specs.Word.{max_dist}
use Rattle.sp_paths.specs.Paths.{word_at}
use Rattle.sp_judge.specs.Marked.{AreTrueFlags}
use Rattle.sp_judge.proofs.marked.scan_share.Given as goal

abbrev pub invariant-loop-list : goal.invariant-loop-list
invariant-loop-list g l = record {
  size : l.share.low + length l.flags.items ≡ l.share.high;
  flags : AreTrueFlags (max_dist g.row.P) l.graph (word_at l.words) l.share.low l.flags.items;
}
