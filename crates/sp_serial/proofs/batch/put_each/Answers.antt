use Rattle.sp_serial.proofs.Lowered.{lowers_then, no_arc, row_more}
use Rattle.sp_serial.proofs.batch.put_each.Goals as goal

pub returns-in_err-relax_full-clause-words : goal.returns-in_err-relax_full-clause-words
returns-in_err-relax_full-clause-words g c = lowers_then c.loop-arc.invariant.words c.relax_full.ensures.words

pub returns-in_err-push-clause-words : goal.returns-in_err-push-clause-words
returns-in_err-push-clause-words g c = lowers_then c.loop-arc.invariant.words c.relax_full.ensures.words

pub loop-arc-preserved : goal.loop-arc-preserved
loop-arc-preserved g c = record {
  words = lowers_then c.loop-arc.invariant.words c.relax_full.ensures.words;
  arcs = rw c.in_ok-push.ensures.items
      (row_more c.args.graph.now c.args.vertex c.row-arc-items.result.now c.loop-arc.arc-index no_arc c.relax_full.new.arcs.items c.row-arc-items.ensures.row c.loop-arc-test.true c.in_ok-relax_full.ensures.arcs);
}
