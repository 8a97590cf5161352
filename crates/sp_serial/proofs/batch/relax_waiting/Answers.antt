use Rattle.std.proofs.Common.{sym, subst}
use Rattle.sp_serial.specs.Lowers.{AreArcs}
use Rattle.sp_serial.proofs.Lowered.{all_ends, arc_lowers, no_arc}
use Rattle.sp_serial.proofs.batch.relax_waiting.Goals as goal

pub lower-requires-clause-arc : goal.lower-requires-clause-arc
lower-requires-clause-arc g c =
    all_ends c.args.graph.now c.n.ensures.graph _ c.loop-arc.invariant.size c.as_slice-arc-items.result.now
    (subst (AreArcs c.args.graph.now) (sym c.as_slice-arc-items.ensures.value) c.drop_relaxed.ensures) c.loop-arc.arc-index no_arc c.loop-arc-test.true

pub returns-in_err-dist-clause-words : goal.returns-in_err-dist-clause-words
returns-in_err-dist-clause-words g c =
    arc_lowers c.as_slice-arc-items.result.now c.loop-arc.arc-index (g.T.Table.labels c.lower.new.self) (subst (AreArcs c.args.graph.now) (sym c.as_slice-arc-items.ensures.value) c.drop_relaxed.ensures) c.loop-arc-test.true
    c.loop-arc.invariant c.lower.ensures.size c.lower.ensures.lowered c.lower.ensures.kept

pub returns-in_err-put_head-clause-words : goal.returns-in_err-put_head-clause-words
returns-in_err-put_head-clause-words g c =
    arc_lowers c.as_slice-arc-items.result.now c.loop-arc.arc-index (g.T.Table.labels c.lower.new.self) (subst (AreArcs c.args.graph.now) (sym c.as_slice-arc-items.ensures.value) c.drop_relaxed.ensures) c.loop-arc-test.true
    c.loop-arc.invariant c.lower.ensures.size c.lower.ensures.lowered c.lower.ensures.kept

pub loop-arc-preserved : goal.loop-arc-preserved
loop-arc-preserved g c =
    arc_lowers c.as_slice-arc-items.result.now c.loop-arc.arc-index (g.T.Table.labels c.lower.new.self) (subst (AreArcs c.args.graph.now) (sym c.as_slice-arc-items.ensures.value) c.drop_relaxed.ensures) c.loop-arc-test.true
    c.loop-arc.invariant c.lower.ensures.size c.lower.ensures.lowered c.lower.ensures.kept
