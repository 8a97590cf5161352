use Rattle.sp_serial.proofs.RootedRows.{AreRooted}
use Rattle.sp_serial.proofs.rooted.forest_of.Given as goal

abbrev pub invariant-loop-place : goal.invariant-loop-place
invariant-loop-place g l = AreRooted l.tree l.place l.forest
