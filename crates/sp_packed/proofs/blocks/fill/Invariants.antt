use Rattle.std.proofs.Common.{◌≡◌, length, ◌-◌, ◌≤◌, take}
use Rattle.std.specs.Io.KnownBytes.{Consumes}
use Rattle.sp_packed.proofs.blocks.fill.Given as goal

abbrev pub invariant-loop-got : goal.invariant-loop-got
invariant-loop-got g l =
    (l.got ≤ length l.bytes) × Consumes (g.R.Read.left l.fn.reader) (g.R.Read.left l.reader) (take l.got l.bytes)
    × (g.R.Read.failing l.reader ≡ g.R.Read.failing l.fn.reader)

abbrev pub decreases-loop-got : goal.decreases-loop-got
decreases-loop-got g l = length l.initial.bytes - l.got
