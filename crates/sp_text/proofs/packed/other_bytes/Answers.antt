use Rattle.sp_text.proofs.Lanes.{others_are}
use Rattle.sp_text.proofs.packed.other_bytes.Goals as goal

pub returns : goal.returns
returns c = others_are c.args.text.now c.requires c.type_inv.text
