use Rattle.std.proofs.Common.{sym}
use Rattle.sp_text.proofs.FieldRuns.{no_remark}
use Rattle.sp_text.proofs.reading.is_remark.Goals as goal

pub returns-then-starts_otherwise : goal.returns-then-starts_otherwise
returns-then-starts_otherwise c = sym (no_remark c.args.text.now (c.starts_otherwise.ensures c.if-starts_otherwise.true))
