use Rattle.std.proofs.Common.{◌≡◌, ◌-◌, ◌^◌, false, []}
use Rattle.sp_device.specs.Failing.{Never}
use Rattle.sp_files.specs.Taking.{tree_form}
use Rattle.sp_files.specs.Reading.{IsBehindFile}
use Rattle.sp_files.specs.Stream.{stream, IsShort}
use Rattle.sp_files.proofs.BlockSteps.{IsFeeding}
use Rattle.sp_files.proofs.trees.stream.feed_block.Given as goal

abbrev pub invariant-loop-state : goal.invariant-loop-state
invariant-loop-state g l = (IsShort g.R.Read (stream l.fn.piece l.fn.reader) → IsBehindFile tree_form [] l.fn.tree → IsFeeding g.R.Read (stream l.fn.piece l.fn.reader) l.state (stream l.piece l.reader) l.tree)
    × (g.R.Read.failing l.reader ≡ g.R.Read.failing l.fn.reader)
    × (g.R.Read.failing l.fn.reader ≡ Never → g.R.Read.has_failed l.fn.reader ≡ false → g.R.Read.has_failed l.reader ≡ false)

abbrev pub decreases-loop-state : goal.decreases-loop-state
decreases-loop-state g l = 2 ^ 62 - g.R.Read.passed l.reader
