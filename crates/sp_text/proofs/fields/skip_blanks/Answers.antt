use Rattle.std.proofs.Common.{sym}
use Rattle.sp_text.proofs.FieldRuns.{skip_blanks}
use Rattle.sp_text.proofs.fields.skip_blanks.Goals as goal

pub returns : goal.returns
returns c = rw c.split_at.ensures.back (sym (skip_blanks c.run.result c.args.text.now c.run.ensures.within c.run.ensures.before))
