use Rattle.std.proofs.Common.{◌≡◌, take}
use Rattle.sp_files.specs.ForestText.{source_count}
use Rattle.sp_files.proofs.forests.writing.count_sources.Given as goal

abbrev pub invariant-loop-word : goal.invariant-loop-word
invariant-loop-word g l = l.count ≡ source_count (take l.word-index l.rows)
