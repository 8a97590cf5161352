use Rattle.std.proofs.Common.{◌∙◌, sym, ap, take}
use Rattle.std.proofs.lemmas.List.{take_more}
use Rattle.std.specs.List.{list_any}
use Rattle.sp_machine.specs.Closing.{same_relaxation}
use Rattle.sp_machine.proofs.Finishes.{one_more}
use Rattle.sp_machine.proofs.closing.set_of.Goals as goal

pub loop-relaxation-preserved : goal.loop-relaxation-preserved
loop-relaxation-preserved c = λ r.
    c.in_ok-insert.ensures.updates.0 r
    ∙ one_more _ r _ (take c.loop-relaxation.relaxation-index c.args.relaxed.now) (c.loop-relaxation.invariant r)
    ∙ ap (list_any (same_relaxation r)) (sym (take_more c.args.relaxed.now c.loop-relaxation.relaxation-index _ c.loop-relaxation-test.true))
