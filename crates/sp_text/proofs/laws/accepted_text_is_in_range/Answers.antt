use Rattle.sp_text.proofs.FaultlessText.{accepted}
use Rattle.sp_text.proofs.laws.accepted_text_is_in_range.Goals as goal

pub returns : goal.returns
returns c = accepted
