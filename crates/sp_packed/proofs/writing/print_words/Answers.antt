use Rattle.std.proofs.Common.{subst}
use Rattle.sp_device.specs.Printing.{Sends}
use Rattle.sp_packed.specs.Words.{word}
use Rattle.sp_packed.proofs.Sending.{sends_word}
use Rattle.sp_packed.proofs.writing.print_words.Goals as goal

pub loop-number-preserved : goal.loop-number-preserved
unfolding word
loop-number-preserved g c =
    sends_word g.W.Write c.args.numbers.now c.loop-number.number-index c.args.out.now c.loop-number.out c.print_text.new.out c.args.printer.now c.loop-number.printer c.print_text.new.printer
    c.loop-number-test.true c.loop-number.invariant
    (subst (λ l. Sends g.W.Write l c.loop-number.out c.loop-number.printer c.print_text.new.out c.print_text.new.printer) c.to_le_bytes.ensures c.print_text.ensures)
