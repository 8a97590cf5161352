use Rattle.std.proofs.Common.{take}
use Rattle.sp_files.specs.Block.{Runs}
use Rattle.sp_files.proofs.trees.block_state.run_of.Given as goal

abbrev pub invariant-loop-end : goal.invariant-loop-end
invariant-loop-end l = Runs l.fn.state (take l.end l.bytes) l.state
