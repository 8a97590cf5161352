use Rattle.std.proofs.Common.{◌≡◌, ◌≤◌, take}
use Rattle.sp_replay.specs.ReportText.{reached_count}
use Rattle.sp_replay.proofs.word_lines.count_reached.Given as goal

abbrev pub invariant-loop-word : goal.invariant-loop-word
invariant-loop-word g l = (l.count ≡ reached_count (take l.word-index l.words)) × (l.count ≤ l.word-index)
