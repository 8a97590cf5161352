use Rattle.std.proofs.Common.{take}
use Rattle.sp_word.specs.Word.{max_dist}
use Rattle.sp_paths.specs.Paths.{word_at}
use Rattle.sp_judge.specs.Shown.{Shows}
use Rattle.sp_judge.proofs.scan.scan_part.Given as goal

abbrev pub invariant-loop-arc : goal.invariant-loop-arc
invariant-loop-arc g l = Shows (max_dist g.row.P) (word_at l.words) (take l.arc-index l.arcs) l.told
