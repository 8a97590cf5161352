use Rattle.std.proofs.Common.{rules, ◌≢◌, take, get_or}
use Rattle.std.proofs.lemmas.List.{take_more}
use Rattle.sp_files.specs.declared.trees.block_state.BlockState.TheVariants.{Over}
use Rattle.sp_files.proofs.BlockStates.{runs_on}
use Rattle.sp_files.proofs.trees.block_state.run_of.Goals as goal

pub loop-end-preserved : goal.loop-end-preserved
loop-end-preserved c =
    let bytes = c.args.bytes.now in
    let end = c.loop-end.end in
    let going : c.loop-end.state ≢ Over = search rules in
    rw (take_more bytes end 0 c.loop-end-test.true, c.after.ensures) (runs_on c.args.state.now c.loop-end.state (take end bytes) (get_or bytes end 0) going c.loop-end.invariant)
