use Rattle.std.proofs.Common.{take}
use Rattle.sp_replay.specs.ReportText.{reached_from}
use Rattle.sp_device.specs.Printing.{Sends}
use Rattle.sp_replay.proofs.reports.send_words.Given as goal

abbrev pub invariant-loop-place : goal.invariant-loop-place
invariant-loop-place g l = Sends g.W.Write (reached_from 1 (take l.place l.words)) l.fn.out l.fn.printer l.out l.printer
