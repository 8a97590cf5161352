use Rattle.sp_packed.proofs.TextLaws.{length-text}
use Rattle.sp_packed.proofs.laws.a_text_has_its_length.Goals as goal

pub returns : goal.returns
returns c = length-text
