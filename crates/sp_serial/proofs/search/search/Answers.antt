use Rattle.sp_serial.proofs.Lowered.{lowers_then}
use Rattle.sp_serial.proofs.search.search.Goals as goal

pub returns-in_err-relax_rows : goal.returns-in_err-relax_rows
returns-in_err-relax_rows g c = lowers_then c.loop.invariant c.relax_rows.ensures

pub loop-preserved-then-not-is_empty : goal.loop-preserved-then-not-is_empty
loop-preserved-then-not-is_empty g c = lowers_then c.loop.invariant c.relax_rows.ensures
