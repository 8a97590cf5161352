use Rattle.sp_serial.proofs.Lowered.{all_ends, arc_lowers}
use Rattle.sp_serial.proofs.batch.relax_arcs.Goals as goal

pub returns-in_err-found : goal.returns-in_err-found
returns-in_err-found g c =
    arc_lowers c.args.row.now c.loop-arc.arc-index (g.T.Table.labels c.lower.new.self) c.requires.arcs c.loop-arc-test.true
    c.loop-arc.invariant c.lower.ensures.size c.lower.ensures.lowered c.lower.ensures.kept

pub returns-in_err-put_head : goal.returns-in_err-put_head
returns-in_err-put_head g c =
    arc_lowers c.args.row.now c.loop-arc.arc-index (g.T.Table.labels c.lower.new.self) c.requires.arcs c.loop-arc-test.true
    c.loop-arc.invariant c.lower.ensures.size c.lower.ensures.lowered c.lower.ensures.kept

pub loop-arc-preserved : goal.loop-arc-preserved
loop-arc-preserved g c =
    arc_lowers c.args.row.now c.loop-arc.arc-index (g.T.Table.labels c.lower.new.self) c.requires.arcs c.loop-arc-test.true
    c.loop-arc.invariant c.lower.ensures.size c.lower.ensures.lowered c.lower.ensures.kept

pub lower-requires-clause-arc : goal.lower-requires-clause-arc
lower-requires-clause-arc g c =
    all_ends c.args.graph.now c.n.ensures.graph _ c.loop-arc.invariant.size c.args.row.now c.requires.arcs c.loop-arc.arc-index _ c.loop-arc-test.true
