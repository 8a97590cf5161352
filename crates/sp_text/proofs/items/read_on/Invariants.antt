use Rattle.std.proofs.Common.{◌≡◌, ◌≤◌, ◌^◌, ◌-◌, ◌+◌, ℕ, List, length}
use Rattle.std.specs.Io.KnownBytes.{Consumes}
use Rattle.sp_text.specs.Text.{judge}
use Rattle.sp_text.specs.Collecting.{IsAfter}
use Rattle.sp_text.specs.Feeding.{IsBehind}
use Rattle.sp_text.proofs.items.read_on.Given as goal

abbrev pub invariant-loop-feeder : goal.invariant-loop-feeder
invariant-loop-feeder g l = (front : List ℕ) × Consumes (g.R.Read.left l.fn.reader) (g.R.Read.left l.reader) front × (g.R.Read.passed l.reader ≡ g.R.Read.passed l.fn.reader + length front) × (length front ≤ 2 ^ 62) × IsBehind (judge g.K.Keep.format g.K.Keep.ranges) (λ c' lines. IsAfter g.K.Keep.format g.K.Keep.Kept lines c'.keep c'.problem c'.counts) front l.feeder × (g.R.Read.failing l.reader ≡ g.R.Read.failing l.fn.reader)

abbrev pub decreases-loop-feeder : goal.decreases-loop-feeder
decreases-loop-feeder g l = 2 ^ 62 - g.R.Read.passed l.reader
