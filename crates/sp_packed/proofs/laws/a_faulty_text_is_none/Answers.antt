use Rattle.sp_packed.proofs.TextLaws.{faulty_none}
use Rattle.sp_packed.proofs.laws.a_faulty_text_is_none.Goals as goal

pub returns : goal.returns
returns c = λ top most came more has_failed e tells memory read g pg wg text. faulty_none top most came more has_failed g pg wg text e tells memory read
