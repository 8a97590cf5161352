use Rattle.std.proofs.Common.{take}
use Rattle.sp_device.specs.Printing.{Sends}
use Rattle.sp_packed.specs.Words.{words}
use Rattle.sp_packed.proofs.writing.print_words.Given as goal

abbrev pub invariant-loop-number : goal.invariant-loop-number
invariant-loop-number g l = Sends g.W.Write (words (take l.number-index l.numbers)) l.fn.out l.fn.printer l.out l.printer
