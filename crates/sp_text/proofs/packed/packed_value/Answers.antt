use Rattle.sp_text.proofs.Words.{packed_is}
use Rattle.sp_text.proofs.packed.packed_value.Goals as goal

pub returns : goal.returns
returns c = packed_is c.args.text.now c.args.count c.requires.room c.requires.some c.requires.few c.requires.digits
