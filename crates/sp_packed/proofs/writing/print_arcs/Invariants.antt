use Rattle.std.proofs.Common.{◌≡◌, take}
use Rattle.sp_device.specs.Printing.{Sends}
use Rattle.sp_packed.specs.Words.{words, sum_on}
use Rattle.sp_packed.specs.Packed.{arcs_words}
use Rattle.sp_packed.proofs.writing.print_arcs.Given as goal

abbrev pub invariant-loop-arc : goal.invariant-loop-arc
invariant-loop-arc g l =
    Sends g.W.Write (words (arcs_words (take l.arc-index l.arcs))) l.fn.out l.fn.printer l.out l.printer
    × (l.all ≡ sum_on l.fn.sum (arcs_words (take l.arc-index l.arcs)))
