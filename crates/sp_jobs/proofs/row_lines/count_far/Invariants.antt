use Rattle.std.proofs.Common.{◌≡◌, ◌≤◌, take}
use Rattle.std.specs.List.{count_by}
use Rattle.sp_jobs.specs.Row.{is_far_line}
use Rattle.sp_jobs.proofs.row_lines.count_far.Given as goal

abbrev pub invariant-loop-line : goal.invariant-loop-line
invariant-loop-line l = (l.count ≡ count_by is_far_line (take l.line-index l.lines)) × (l.count ≤ l.line-index)
