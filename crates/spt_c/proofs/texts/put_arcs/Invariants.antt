use Rattle.spt_c.specs.Texts.{HasArcs}
use Rattle.spt_c.proofs.texts.put_arcs.Given as goal

abbrev pub invariant-loop-place : goal.invariant-loop-place
invariant-loop-place l = HasArcs l.place l.from l.fn.arcs l.arcs
