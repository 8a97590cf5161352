use Rattle.std.proofs.Common.{◌≡◌, ◌≤◌, ◌<◌, ◌+◌, ◌^◌, ℕ, List, ◌++◌, length}
use Rattle.std.specs.Io.KnownBytes.{Appends}
use Rattle.sp_device.proofs.devices.write_all.Given as goal

abbrev pub invariant-loop-rest : goal.invariant-loop-rest
invariant-loop-rest g l = (front : List ℕ) × (l.bytes ≡ front ++ l.rest) × Appends (g.W.Write.written l.fn.out) (g.W.Write.written l.out) front
    × (g.W.Write.passed l.out ≡ g.W.Write.passed l.fn.out + length front) × (0 < length front → g.W.Write.passed l.out ≤ 2 ^ 62) × (g.W.Write.failing l.out ≡ g.W.Write.failing l.fn.out)

abbrev pub decreases-loop-rest : goal.decreases-loop-rest
decreases-loop-rest g l = length l.rest
