use Rattle.sp_serial.proofs.Lowered.{lowers_then}
use Rattle.sp_serial.proofs.batch.relax_rows.Goals as goal

pub returns-in_err-relax_some : goal.returns-in_err-relax_some
returns-in_err-relax_some g c = lowers_then c.loop-some.invariant c.relax_some.ensures

pub loop-some-preserved : goal.loop-some-preserved
loop-some-preserved g c = lowers_then c.loop-some.invariant c.relax_some.ensures
