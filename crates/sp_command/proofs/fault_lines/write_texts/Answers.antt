use Rattle.sp_command.proofs.LineSteps.{begun_at, failed_written}
use Rattle.sp_command.proofs.fault_lines.write_texts.Goals as goal

pub returns-in_err-write_all : goal.returns-in_err-write_all
returns-in_err-write_all g c =
    failed_written g.W.Write _ _ _ _ c.from_residual.ensures.0
    (begun_at _ c.args.texts.now c.loop-text.text-index _ _ _ c.loop-text-test.true c.loop-text.invariant c.in_err-write_all.ensures.begun)
    c.in_err-write_all.ensures.failed
