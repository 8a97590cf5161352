use Rattle.std.proofs.Common.{take}
use Rattle.std.specs.List.{flat_map}
use Rattle.sp_replay.specs.ReportText.{call_text}
use Rattle.sp_device.specs.Printing.{Sends}
use Rattle.sp_replay.proofs.reports.send_calls.Given as goal

abbrev pub invariant-loop-call : goal.invariant-loop-call
invariant-loop-call g l = Sends g.W.Write (flat_map call_text (take l.call-index l.calls)) l.fn.out l.fn.printer l.out l.printer
