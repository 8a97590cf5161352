use Rattle.std.proofs.Common.{◌≡◌}
use Rattle.sp_disk.proofs.noted.Noted.begin.Given as goal

abbrev pub invariant-loop-byte : goal.invariant-loop-byte
invariant-loop-byte g l = l.self.inner ≡ l.fn.self.inner
