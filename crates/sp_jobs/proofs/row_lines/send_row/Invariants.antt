use Rattle.std.proofs.Common.{take}
use Rattle.std.specs.List.{flat_map}
use Rattle.sp_device.specs.Printing.{Sends}
use Rattle.sp_jobs.specs.Row.{line_text}
use Rattle.sp_jobs.proofs.row_lines.send_row.Given as goal

abbrev pub invariant-loop-line : goal.invariant-loop-line
invariant-loop-line g l = Sends g.W.Write (flat_map (line_text l.source) (take l.line-index l.lines)) l.fn.out l.fn.printer l.out l.printer
