use Rattle.std.proofs.Common.{take}
use Rattle.std.specs.List.{flat_map}
use Rattle.sp_device.specs.Printing.{Sends}
use Rattle.sp_tools.specs.Verdicts.{judged_text}
use Rattle.sp_tools.proofs.check_all.print_verdicts.Given as goal

abbrev pub invariant-loop-judged : goal.invariant-loop-judged
invariant-loop-judged g l = Sends g.W.Write (flat_map judged_text (take l.judged-index l.all)) l.fn.out l.fn.printer l.out l.printer
