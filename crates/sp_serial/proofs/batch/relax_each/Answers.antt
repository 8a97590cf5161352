use Rattle.sp_serial.proofs.Lowered.{lowers_then}
use Rattle.sp_serial.proofs.batch.relax_each.Goals as goal

pub returns-in_err-relax_row : goal.returns-in_err-relax_row
returns-in_err-relax_row g c = lowers_then c.loop-entry.invariant c.relax_row.ensures

pub loop-entry-preserved : goal.loop-entry-preserved
loop-entry-preserved g c = lowers_then c.loop-entry.invariant c.relax_row.ensures
