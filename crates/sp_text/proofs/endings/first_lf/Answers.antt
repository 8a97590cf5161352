use Rattle.std.proofs.Common.{refl}
use Rattle.sp_text.proofs.Lanes.{first_lf_is}
use Rattle.sp_text.proofs.endings.first_lf.Goals as goal

pub returns-then-end-lt-FRONT : goal.returns-then-end-lt-FRONT
returns-then-end-lt-FRONT c = first_lf_is c.args.bytes.now _ c.if-bytes-ge-FRONT.true refl c.if-end-lt-FRONT.true
