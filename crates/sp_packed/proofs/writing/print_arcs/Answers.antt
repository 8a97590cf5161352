use Rattle.std.proofs.Common.{refl, ◌∙◌}
use Rattle.sp_paths.specs.declared.arc.Arc.{Arc}
use Rattle.sp_packed.specs.Words.{sum_on}
use Rattle.sp_packed.proofs.Sending.{sends_nothing, sends_arc, sum_arc}
use Rattle.sp_packed.proofs.writing.print_arcs.Goals as goal

pub loop-arc-init : goal.loop-arc-init
unfolding sum_on
loop-arc-init g c = (sends_nothing g.W.Write c.args.out.now c.args.printer.now, refl)

pub loop-arc-preserved : goal.loop-arc-preserved
loop-arc-preserved g c =
    let d : Arc = record { tail = 0; head = 0; len = 0 } in
    let before = c.loop-arc.invariant in
    let i = c.loop-arc.arc-index in (
      sends_arc g.W.Write c.args.arcs.now i d c.args.out.now c.loop-arc.out c.print_words-all.new.out c.args.printer.now c.loop-arc.printer c.print_words-all.new.printer
          c.loop-arc-test.true before.0 c.print_words-all.ensures.sends,
      c.print_words-all.ensures.sum ∙ sum_arc c.args.sum c.loop-arc.all c.args.arcs.now i d c.loop-arc-test.true before.1,
    )
