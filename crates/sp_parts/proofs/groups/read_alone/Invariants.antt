use Rattle.std.proofs.Common.{◌≡◌, ◌-◌, ◌^◌, ℕ, List}
use Rattle.sp_text.specs.Text.{judge}
use Rattle.sp_text.specs.Collectors.{HasTakenLines}
use Rattle.sp_text.specs.Feeding.{IsBehind}
use Rattle.sp_parts.specs.Groups.{HasCome}
use Rattle.sp_parts.proofs.groups.read_alone.Given as goal

abbrev pub invariant-loop-group : goal.invariant-loop-group
invariant-loop-group g l =
    (text : List ℕ) × HasCome g.R.Read (g.R.Read.left l.fn.device) l.device text × IsBehind (judge g.K.Keep.format g.K.Keep.ranges) (HasTakenLines {keeper = g.K.Keep}) text l.reader × (g.R.Read.failing l.device ≡ g.R.Read.failing l.fn.device)

abbrev pub decreases-loop-group : goal.decreases-loop-group
decreases-loop-group g l = 2 ^ 62 - g.R.Read.passed l.device

abbrev pub ghosts-read_together : goal.ghosts-read_together
ghosts-read_together g a = record { text = g.R.Read.left a.device.now; problem = a.reader.taker.problem }
