use Rattle.sp_serial.specs.Rooted.{AreKnownRoots}
use Rattle.sp_serial.proofs.rooted.fill_roots.Given as goal

abbrev pub invariant-loop-entry : goal.invariant-loop-entry
invariant-loop-entry g l = AreKnownRoots l.tree l.roots
