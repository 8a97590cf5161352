use Rattle.sp_serial.proofs.Lowered.{lowers_then}
use Rattle.sp_serial.proofs.batch.relax_live.Goals as goal

pub returns-in_err-put_row : goal.returns-in_err-put_row
returns-in_err-put_row g c = lowers_then c.loop-vertex.invariant.words c.put_row.ensures.words

pub loop-vertex-preserved : goal.loop-vertex-preserved
loop-vertex-preserved g c = record { words = lowers_then c.loop-vertex.invariant.words c.put_row.ensures.words; arcs = c.in_ok-put_row.ensures.arcs }

pub returns : goal.returns
returns g c = lowers_then c.loop-vertex.invariant.words c.relax_waiting.ensures.words
