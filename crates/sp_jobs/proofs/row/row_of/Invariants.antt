use Rattle.std.proofs.Common.{take}
use Rattle.sp_jobs.specs.Row.{AreLines}
use Rattle.sp_jobs.proofs.row.row_of.Given as goal

abbrev pub invariant-loop-place : goal.invariant-loop-place
invariant-loop-place g l = AreLines g.row.P l.graph l.source (take l.place l.targets) l.lines.items
